use Rattle.extraction_laws.proofs.CompactedText.{written_is_compacted}
use Rattle.extraction_laws.proofs.law.written_is_compacted.Goals as goal

pub returns : goal.returns
returns c = written_is_compacted
