use Rattle.iges_params.proofs.FileExact.{IsFile-read_file, Refusal-read_file}
use Rattle.iges_params.proofs.FilePass.{lines_go_on, found_from, fault_from}
use Rattle.iges_params.proofs.reading.read_sections.Goals as goal

pub returns-clause-found : goal.returns-clause-found
returns-clause-found c = λ bytes sectioned. found_from bytes c.read_lines.result
    (lines_go_on bytes c.args.lines.now sectioned c.read_lines.result c.read_lines.ensures)

pub returns-clause-only : goal.returns-clause-only
returns-clause-only c = λ bytes f sectioned h. let gives = lines_go_on bytes c.args.lines.now sectioned c.read_lines.result c.read_lines.ensures in rw
    (IsFile-read_file bytes f h) at gives

pub returns-clause-fault : goal.returns-clause-fault
returns-clause-fault c = λ bytes sectioned. fault_from bytes c.read_lines.result
    (lines_go_on bytes c.args.lines.now sectioned c.read_lines.result c.read_lines.ensures)

pub returns-clause-only_fault : goal.returns-clause-only_fault
returns-clause-only_fault c = λ bytes f sectioned h. let gives =
    lines_go_on bytes c.args.lines.now sectioned c.read_lines.result c.read_lines.ensures in rw (Refusal-read_file bytes f h) at gives
