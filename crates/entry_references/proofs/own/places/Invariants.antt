use Rattle.std.proofs.Common.{◌≡◌, take}
use Rattle.entry_references.proofs.own.places.Given as goal

abbrev pub invariant-listed : goal.invariant-listed
invariant-listed l = l.list ≡ take l.place-index l.listed
