use Rattle.std.proofs.Common.{ℕ, [], take}
use Rattle.solid_extract.specs.NewValues.{AreRenewed}
use Rattle.solid_extract.proofs.new_values.rename_places.Given as goal

abbrev pub invariant-places : goal.invariant-places
invariant-places l = (count : ℕ)
    → AreRenewed l.renaming (record { count = count; pointers = take l.place-index l.places; cut = [] }) l.fn.values l.marks.items l.values
