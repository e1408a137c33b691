use Rattle.extraction_laws.proofs.RankedSolid.{solid_ranked}
use Rattle.extraction_laws.proofs.law.solid_is_ranked.Goals as goal

pub returns : goal.returns
returns c = solid_ranked
