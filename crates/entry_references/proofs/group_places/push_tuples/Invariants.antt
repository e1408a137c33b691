use Rattle.std.proofs.Common.{◌≡◌, ◌+◌, ◌++◌, length, flat_map}
use Rattle.brep_lists.specs.Record.{tuple_due}
use Rattle.entry_references.specs.PlacesDue.{places_due}
use Rattle.entry_references.proofs.group_places.push_tuples.Given as goal

abbrev pub invariant-tuples : goal.invariant-tuples
invariant-tuples l = record {
  places : l.places ++ places_due l.at (flat_map tuple_due l.tuple-iterator) ≡ l.fn.places ++ places_due l.first (flat_map tuple_due l.listed);
  end : l.at + length (flat_map tuple_due l.tuple-iterator) ≡ l.first + length (flat_map tuple_due l.listed);
}
