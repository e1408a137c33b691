use Rattle.extraction_laws.proofs.CompactedSolid.{solid_compacted}
use Rattle.extraction_laws.proofs.law.solid_is_compacted.Goals as goal

pub returns : goal.returns
returns c = solid_compacted
