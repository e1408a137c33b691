use Rattle.std.proofs.Common.{take}
use Rattle.record_numbers.specs.Parts.{AreMarkedPlaces}
use Rattle.record_numbers.proofs.told.marked_places.Given as goal

abbrev pub invariant-places : goal.invariant-places
invariant-places l = AreMarkedPlaces l.marks.items (take l.place-index l.places) l.count
