use Rattle.open_laws.proofs.ClosedSolids.{shells_have_places, closed_sound}
use Rattle.open_laws.proofs.law.closed_is_sound.Goals as goal

pub returns-clause-places : goal.returns-clause-places
returns-clause-places c = shells_have_places

pub returns-clause-sound : goal.returns-clause-sound
returns-clause-sound c = closed_sound
