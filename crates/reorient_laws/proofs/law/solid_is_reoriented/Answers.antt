use Rattle.reorient_laws.proofs.TurnedSolid.{solid_reoriented}
use Rattle.reorient_laws.proofs.law.solid_is_reoriented.Goals as goal

pub returns : goal.returns
returns c = solid_reoriented
