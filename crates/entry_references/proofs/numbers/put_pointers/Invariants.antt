use Rattle.std.proofs.Common.{◌≡◌, take}
use Rattle.std.specs.Prelude.{filter_map}
use Rattle.entry_references.specs.Layout.{value_at}
use Rattle.entry_references.specs.Refs.{number_of}
use Rattle.entry_references.proofs.numbers.put_pointers.Given as goal

abbrev pub invariant-places : goal.invariant-places
invariant-places l = l.numbers ≡ filter_map (λ k. number_of (value_at l.values k)) (take l.place-index l.own.pointers)
