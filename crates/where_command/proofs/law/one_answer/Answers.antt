use Rattle.where_command.proofs.OneAnswer.{due_one}
use Rattle.where_command.proofs.law.one_answer.Goals as goal

pub returns : goal.returns
returns c = due_one
