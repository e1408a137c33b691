use Rattle.open_commands.proofs.AcceptedFor.{sound_exactly}
use Rattle.open_commands.proofs.law.sound_exactly_where_accepted.Goals as goal

pub returns : goal.returns
returns c = sound_exactly
