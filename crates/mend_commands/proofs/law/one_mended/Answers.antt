use Rattle.mend_commands.proofs.OneMending.{one_mended}
use Rattle.mend_commands.proofs.law.one_mended.Goals as goal

pub returns : goal.returns
returns c = one_mended
