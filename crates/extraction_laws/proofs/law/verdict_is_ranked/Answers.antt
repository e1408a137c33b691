use Rattle.extraction_laws.proofs.RankedVerdict.{verdict_ranked}
use Rattle.extraction_laws.proofs.law.verdict_is_ranked.Goals as goal

pub returns : goal.returns
returns c = verdict_ranked
