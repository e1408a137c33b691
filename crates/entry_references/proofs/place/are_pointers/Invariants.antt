use Rattle.std.proofs.Common.{◌≡◌, drop}
use Rattle.std.specs.List.{list_all}
use Rattle.entry_references.specs.Layout.{value_at, is_pointer}
use Rattle.entry_references.proofs.place.are_pointers.Given as goal

abbrev pub invariant-places : goal.invariant-places
invariant-places l = list_all (λ k. is_pointer (value_at l.values k)) (drop l.place-index l.places) ≡ list_all (λ k. is_pointer (value_at l.values k)) l.places
