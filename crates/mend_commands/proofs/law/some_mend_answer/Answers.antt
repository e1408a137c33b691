use Rattle.mend_commands.proofs.OneMending.{some_mend}
use Rattle.mend_commands.proofs.law.some_mend_answer.Goals as goal

pub returns : goal.returns
returns c = some_mend
