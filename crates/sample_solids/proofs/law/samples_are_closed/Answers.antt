use Rattle.sample_solids.proofs.Closed.{closed, accepted}
use Rattle.sample_solids.proofs.law.samples_are_closed.Goals as goal

pub returns-clause-closed : goal.returns-clause-closed
returns-clause-closed c = closed

pub returns-clause-accepted : goal.returns-clause-accepted
returns-clause-accepted c = accepted
