use Rattle.repair_commands.proofs.OneAnswer.{due_one}
use Rattle.repair_commands.proofs.law.one_answer.Goals as goal

pub returns : goal.returns
returns c = due_one
