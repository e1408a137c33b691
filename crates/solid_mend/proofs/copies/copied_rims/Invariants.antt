use Rattle.std.proofs.Common.{◌≡◌, take}
use Rattle.solid_mend.proofs.copies.copied_rims.Given as goal

abbrev pub invariant-rims : goal.invariant-rims
invariant-rims l = l.copy ≡ take l.i l.rims
