use Rattle.extraction_laws.proofs.CompactedAgain.{compacted_is_extracted, compacted_again, compacted_stays}
use Rattle.extraction_laws.proofs.law.compacted_again.Goals as goal

pub returns-clause-extracted : goal.returns-clause-extracted
returns-clause-extracted c = compacted_is_extracted

pub returns-clause-dropped : goal.returns-clause-dropped
returns-clause-dropped c = compacted_again

pub returns-clause-stays : goal.returns-clause-stays
returns-clause-stays c = compacted_stays
