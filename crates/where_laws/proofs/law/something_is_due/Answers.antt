use Rattle.where_laws.proofs.SomeDue.{some_answer}
use Rattle.where_laws.proofs.law.something_is_due.Goals as goal

pub returns : goal.returns
returns c = some_answer
