use Rattle.iges_solid_cmd.proofs.SomeDue.{some_answer}
use Rattle.iges_solid_cmd.proofs.law.something_is_due.Goals as goal

pub returns : goal.returns
returns c = some_answer
