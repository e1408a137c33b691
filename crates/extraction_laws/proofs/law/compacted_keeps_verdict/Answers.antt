use Rattle.extraction_laws.proofs.CompactedText.{written_keeps_verdict}
use Rattle.extraction_laws.proofs.law.compacted_keeps_verdict.Goals as goal

pub returns : goal.returns
returns c = written_keeps_verdict
