use Rattle.std.proofs.Common.{◌≡◌, take}
use Rattle.solid_mend.proofs.copies.copied_loops.Given as goal

abbrev pub invariant-loops : goal.invariant-loops
invariant-loops l = l.copy ≡ take l.i l.loops
