use Rattle.extraction_laws.proofs.ExtractedSolid.{places_alike, places_kept}
use Rattle.extraction_laws.proofs.law.places_are_kept.Goals as goal

pub returns-clause-items : goal.returns-clause-items
returns-clause-items c = places_alike

pub returns-clause-verdict : goal.returns-clause-verdict
returns-clause-verdict c = places_kept
