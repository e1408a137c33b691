use Rattle.solid_reorient.proofs.Kept.{made_with}
use Rattle.solid_reorient.proofs.law.reflagged_is_made.Goals as goal

pub returns : goal.returns
returns c = made_with
