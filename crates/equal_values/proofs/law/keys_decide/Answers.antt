use Rattle.equal_values.proofs.Marks.{lists_decide}
use Rattle.equal_values.proofs.law.keys_decide.Goals as goal

pub returns : goal.returns
returns c = lists_decide
