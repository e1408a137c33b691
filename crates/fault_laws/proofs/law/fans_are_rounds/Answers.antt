use Rattle.fault_laws.proofs.Told.{are_rounds}
use Rattle.fault_laws.proofs.law.fans_are_rounds.Goals as goal

pub returns : goal.returns
returns c = are_rounds
