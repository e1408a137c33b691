use Rattle.record_laws.proofs.Leading.{paths_lead_to_false}
use Rattle.record_laws.proofs.law.paths_lead_to_false.Goals as goal

pub returns : goal.returns
returns c = paths_lead_to_false
