use Rattle.iges_solid_cmd.proofs.YesLemmas.{yes_is_accepted, yes_is_closed}
use Rattle.iges_solid_cmd.proofs.law.yes_means_closed.Goals as goal

pub returns-clause-accepted : goal.returns-clause-accepted
returns-clause-accepted c = yes_is_accepted

pub returns-clause-closed : goal.returns-clause-closed
returns-clause-closed c = yes_is_closed
