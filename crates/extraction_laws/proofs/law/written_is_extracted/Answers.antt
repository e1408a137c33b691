use Rattle.extraction_laws.proofs.WrittenText.{written_is_extracted}
use Rattle.extraction_laws.proofs.law.written_is_extracted.Goals as goal

pub returns : goal.returns
returns c = written_is_extracted
