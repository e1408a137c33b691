use Rattle.extraction_laws.proofs.CompactedSolid.{verdict_compacted, no_other_verdict, closed_compacted}
use Rattle.extraction_laws.proofs.law.verdict_is_compacted.Goals as goal

pub returns-clause-verdict : goal.returns-clause-verdict
returns-clause-verdict c = verdict_compacted

pub returns-clause-only : goal.returns-clause-only
returns-clause-only c = no_other_verdict

pub returns-clause-closed : goal.returns-clause-closed
returns-clause-closed c = closed_compacted
