use Rattle.std.proofs.Common.{◌≡◌, take}
use Rattle.solid_mend.proofs.copies.copied_items.Given as goal

abbrev pub invariant-items : goal.invariant-items
invariant-items g l = l.copy ≡ take l.i l.items
