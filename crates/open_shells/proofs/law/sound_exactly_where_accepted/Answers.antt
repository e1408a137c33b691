use Rattle.open_shells.proofs.Complete.{sound_exactly}
use Rattle.open_shells.proofs.law.sound_exactly_where_accepted.Goals as goal

pub returns : goal.returns
returns c = sound_exactly
