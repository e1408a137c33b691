use Rattle.iges_write.proofs.FileBack.{one_text}
use Rattle.iges_write.proofs.law.every_file_has_one_text.Goals as goal

pub returns : goal.returns
returns c = one_text
