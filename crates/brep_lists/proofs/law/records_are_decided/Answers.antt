use Rattle.brep_lists.proofs.Decided.{decided}
use Rattle.brep_lists.proofs.law.records_are_decided.Goals as goal

pub returns : goal.returns
returns c = decided
