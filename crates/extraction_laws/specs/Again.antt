-- A compacted solid that is compacted again.
use Rattle.std.specs.Prelude.{◌≡◌, ◌↔◌, ℕ}
use Rattle.iges_params.specs.Contents.{Contents}
use Rattle.brep_walk.specs.Places.{places}
use Rattle.solid_data.specs.Obligations.{AllHold}
use Rattle.solid_extract.specs.Extracted.{IsExtracted}
use Rattle.list_compact.specs.Dropped.{dropped}
use Rattle.list_compact.specs.Compacted.{IsCompacted}
use Rattle.extraction_laws.specs.Compacted.{number_after}

-- A compacted file is what is extracted of it, and its places hold: it can be compacted again.
abbrev pub CompactedIsExtracted : Type 0
CompactedIsExtracted = (f : Contents) (n : ℕ) (new : Contents) (c : IsCompacted f n new) → IsExtracted new (number_after f n new c n) new
    × AllHold (places new (number_after f n new c n))

-- Compacted again it is what is extracted once its own unused items are dropped. There may be some: those that only loops used which the second extraction left
-- out.
abbrev pub CompactedAgain : Type 0
CompactedAgain = (f : Contents) (n : ℕ) (new : Contents) (c : IsCompacted f n new) (again : Contents)
    → IsCompacted new (number_after f n new c n) again ↔ IsExtracted (dropped new) (number_after f n new c n) again

-- Where there are none, it is the same file, and no other.
abbrev pub CompactedStays : Type 0
CompactedStays = (f : Contents) (n : ℕ) (new : Contents) (c : IsCompacted f n new) → dropped new ≡ new → (again : Contents)
    → IsCompacted new (number_after f n new c n) again ↔ again ≡ new
