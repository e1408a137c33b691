use Rattle.std.proofs.Common.{◌≡◌, ◌<◌, ℕ, slice_get, Some}
use Rattle.orient_certificate.specs.declared.crossing.Crossing.{Crossing}
use Rattle.face_orient.specs.Steady.{IsSteady}
use Rattle.face_orient.proofs.finding.first_unsteady.Given as goal

abbrev pub invariant-steps : goal.invariant-steps
invariant-steps l = (r : ℕ) (c : Crossing) → r < l.r → slice_get l.crossings r ≡ Some c → IsSteady l.walk.places.items c
