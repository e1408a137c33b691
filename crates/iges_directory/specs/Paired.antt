-- Private: entries and the values of their records, in two lists and in one.
use Rattle.std.specs.Prelude.{List, [], ◌∷◌}
use Rattle.iges_fields.specs.declared.value.Value.{Value}
use Rattle.iges_directory.specs.declared.entry.Entry.{Entry}
use Rattle.iges_directory.specs.declared.entry.Placed.{Placed}

abbrev pub Pairs : Type 0
Pairs = List (Entry × List Value)

-- each entry with the values at its place
abbrev pub paired : List Placed → List (List Value) → Pairs
paired [] values = []
paired (p ∷ ps) [] = []
paired (p ∷ ps) (v ∷ values) = (p.entry, v) ∷ paired ps values
