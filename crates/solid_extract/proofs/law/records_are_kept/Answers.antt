use Rattle.solid_extract.proofs.Keeping.{keeps}
use Rattle.solid_extract.proofs.law.records_are_kept.Goals as goal

pub returns : goal.returns
returns c = keeps
