use Rattle.mend_commands.proofs.OneMending.{mended_back}
use Rattle.mend_commands.proofs.law.mended_reads_back.Goals as goal

pub returns : goal.returns
returns c = mended_back
