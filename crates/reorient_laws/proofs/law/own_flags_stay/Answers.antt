use Rattle.reorient_laws.proofs.OwnFlags as lemmas
use Rattle.reorient_laws.proofs.ClosedAlready.{closed_stays}
use Rattle.reorient_laws.proofs.law.own_flags_stay.Goals as goal

pub returns-clause-own : goal.returns-clause-own
returns-clause-own c = lemmas.own_flags_stay

pub returns-clause-closed : goal.returns-clause-closed
returns-clause-closed c = closed_stays
