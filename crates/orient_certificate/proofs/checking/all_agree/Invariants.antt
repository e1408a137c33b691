use Rattle.std.proofs.Common.{◌≡◌, ◌<◌, ℕ, slice_get, Some}
use Rattle.orient_certificate.specs.declared.crossing.Crossing.{Crossing}
use Rattle.orient_certificate.specs.Crossings.{Agrees}
use Rattle.orient_certificate.proofs.checking.all_agree.Given as goal

abbrev pub invariant-steps : goal.invariant-steps
invariant-steps l = (r : ℕ) (c : Crossing) → r < l.r → slice_get l.crossings r ≡ Some c → Agrees l.flags c
