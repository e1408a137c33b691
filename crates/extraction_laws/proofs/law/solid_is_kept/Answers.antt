use Rattle.extraction_laws.proofs.ExtractedSolid.{solid_told}
use Rattle.extraction_laws.proofs.law.solid_is_kept.Goals as goal

pub returns : goal.returns
returns c = solid_told
