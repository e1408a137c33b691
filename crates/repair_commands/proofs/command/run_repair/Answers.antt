use Rattle.repair_commands.proofs.Outcomes.{complete, finished, no_read_fault, write_fault}
use Rattle.repair_commands.proofs.command.run_repair.Goals as goal

pub returns-in-Ok-clause-outcome : goal.returns-in-Ok-clause-outcome
returns-in-Ok-clause-outcome g c = finished _ _ _ _ _ _ _ _ _ c.in-Ok.ensures.found c.finish.ensures

pub returns-in-Ok-clause-read_fault : goal.returns-in-Ok-clause-read_fault
returns-in-Ok-clause-read_fault g c = λ fault. absurd (no_read_fault _ _ _ _ _ _ _ _ _ c.in-Ok.ensures.found c.finish.ensures fault)

pub returns-in-Ok-clause-write_fault : goal.returns-in-Ok-clause-write_fault
returns-in-Ok-clause-write_fault g c = λ fault. write_fault _ _ _ _ _ _ _ _ _ c.in-Ok.ensures.found c.finish.ensures fault

pub returns-in-Ok-clause-complete : goal.returns-in-Ok-clause-complete
returns-in-Ok-clause-complete g c = λ some no_read no_write. complete _ _ _ _ _ _ _ _ _ c.in-Ok.ensures.found c.finish.ensures some no_write

pub returns-in-Ok-clause-early : goal.returns-in-Ok-clause-early
returns-in-Ok-clause-early g c = λ fault. absurd (no_read_fault _ _ _ _ _ _ _ _ _ c.in-Ok.ensures.found c.finish.ensures fault)
