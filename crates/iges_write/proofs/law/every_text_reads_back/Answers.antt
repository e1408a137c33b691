use Rattle.iges_write.proofs.FileBack.{reads_back}
use Rattle.iges_write.proofs.law.every_text_reads_back.Goals as goal

pub returns : goal.returns
returns c = reads_back
