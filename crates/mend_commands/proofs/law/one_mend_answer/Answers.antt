use Rattle.mend_commands.proofs.OneMending.{one_mend}
use Rattle.mend_commands.proofs.law.one_mend_answer.Goals as goal

pub returns : goal.returns
returns c = one_mend
