use Rattle.solid_reorient.proofs.StillHold.{still_hold}
use Rattle.solid_reorient.proofs.ReflaggedSolid.{solid_turned}
use Rattle.solid_reorient.proofs.law.reflagged_solid_is_turned.Goals as goal

pub returns-clause-places : goal.returns-clause-places
returns-clause-places c = still_hold

pub returns-clause-solid : goal.returns-clause-solid
returns-clause-solid c = solid_turned
