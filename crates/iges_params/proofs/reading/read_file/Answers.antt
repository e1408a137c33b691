use Rattle.iges_params.proofs.FileExact.{IsFile-read_file, Refusal-read_file}
use Rattle.iges_params.proofs.FilePass.{lines_fail}
use Rattle.iges_params.proofs.reading.read_file.Goals as goal

pub returns-in-Ok-clause-only : goal.returns-in-Ok-clause-only
returns-in-Ok-clause-only c = λ f h. c.read_sections.ensures.only c.args.bytes.now f (c.in-Ok.ensures {u = tt}).found h

pub returns-in-Ok-clause-fault : goal.returns-in-Ok-clause-fault
returns-in-Ok-clause-fault c = c.read_sections.ensures.fault c.args.bytes.now (c.in-Ok.ensures {u = tt}).found

pub returns-in-Ok-clause-only_fault : goal.returns-in-Ok-clause-only_fault
returns-in-Ok-clause-only_fault c = λ f h. c.read_sections.ensures.only_fault c.args.bytes.now f (c.in-Ok.ensures {u = tt}).found h

pub returns-in-Err-clause-only : goal.returns-in-Err-clause-only
returns-in-Err-clause-only c = λ f h. let fails = lines_fail c.args.bytes.now c.in-Err.fault (c.in-Err.ensures {u = tt}).fault in rw
    (IsFile-read_file c.args.bytes.now f h) at fails

pub returns-in-Err-clause-only_fault : goal.returns-in-Err-clause-only_fault
returns-in-Err-clause-only_fault c = λ f h. let fails = lines_fail c.args.bytes.now c.in-Err.fault (c.in-Err.ensures {u = tt}).fault in rw
    (Refusal-read_file c.args.bytes.now f h) at fails
