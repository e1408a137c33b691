use Rattle.fault_laws.proofs.Found.{some_faults}
use Rattle.fault_laws.proofs.law.something_is_found.Goals as goal

pub returns : goal.returns
returns c = some_faults
