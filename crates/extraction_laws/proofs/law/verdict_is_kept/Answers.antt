use Rattle.extraction_laws.proofs.WholeVerdict.{verdict_kept, no_other, closed_kept}
use Rattle.extraction_laws.proofs.law.verdict_is_kept.Goals as goal

pub returns-clause-verdict : goal.returns-clause-verdict
returns-clause-verdict c = verdict_kept

pub returns-clause-only : goal.returns-clause-only
returns-clause-only c = no_other

pub returns-clause-closed : goal.returns-clause-closed
returns-clause-closed c = closed_kept
