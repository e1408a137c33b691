use Rattle.std.proofs.Common.{◌≡◌, take}
use Rattle.solid_mend.proofs.copies.copied_fates.Given as goal

abbrev pub invariant-faces : goal.invariant-faces
invariant-faces l = l.copy ≡ take l.i l.fates
