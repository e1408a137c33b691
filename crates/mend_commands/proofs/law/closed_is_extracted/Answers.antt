use Rattle.mend_commands.proofs.OneMending.{closed_extracted}
use Rattle.mend_commands.proofs.law.closed_is_extracted.Goals as goal

pub returns : goal.returns
returns c = closed_extracted
