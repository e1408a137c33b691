use Rattle.orient_commands.proofs.OneOwed.{orientation_accepted}
use Rattle.orient_commands.proofs.law.orientations_are_accepted.Goals as goal

pub returns : goal.returns
returns c = orientation_accepted
