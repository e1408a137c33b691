use Rattle.std.proofs.Common.{◌≡◌, ◌+◌, ◌++◌, map, take}
use Rattle.entry_references.proofs.group_places.push_group.Given as goal

abbrev pub invariant-pointers : goal.invariant-pointers
invariant-pointers l = l.places ≡ l.fn.places ++ map (λ k. l.first + k) (take l.pointer-index l.pointers)
