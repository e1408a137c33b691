use Rattle.repair_commands.proofs.OneAnswer.{due_some}
use Rattle.repair_commands.proofs.law.some_answer.Goals as goal

pub returns : goal.returns
returns c = due_some
