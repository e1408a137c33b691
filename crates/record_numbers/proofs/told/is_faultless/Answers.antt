use Rattle.record_numbers.proofs.ToldLemmas.{no_fault, some_fault}
use Rattle.record_numbers.proofs.told.is_faultless.Goals as goal

pub returns-in-Ok : goal.returns-in-Ok
returns-in-Ok c = no_fault c.args.file.now (c.args.entry.now, c.args.values.now) c.in-Ok.numbers c.in-Ok.ensures

pub returns-in_ok-unless_memory-in-Err : goal.returns-in_ok-unless_memory-in-Err
returns-in_ok-unless_memory-in-Err c = some_fault c.args.file.now (c.args.entry.now, c.args.values.now) c.in-Err.fault c.in-Err.ensures c.in_ok-unless_memory-in-Err.ensures
