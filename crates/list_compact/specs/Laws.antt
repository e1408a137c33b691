-- What dropping keeps.
use Rattle.std.specs.Prelude.{◌≡◌, ℕ, pos, Some, None}
use Rattle.iges_params.specs.Contents.{Contents}
use Rattle.iges_params.specs.Made.{IsMade}
use Rattle.iges_params.specs.Named.{named}
use Rattle.brep_walk.specs.Places.{places}
use Rattle.solid_data.specs.Obligations.{AllHold}
use Rattle.entry_references.specs.declared.fault.ExtractReason.{ExtractReason}
use Rattle.entry_references.specs.Refs.{Record, entry_fault}
use Rattle.solid_extract.specs.Extracted.{new_number, IsExtracted, IsRefused}
use Rattle.list_compact.specs.Dropped.{dropped}

-- No entry of an extracted file has a fault in it.
abbrev pub ExtractedIsFaultless : Type 0
ExtractedIsFaultless = (f g : Contents) (n : ℕ) → IsExtracted f n g → (m : ℕ) (r : Record) → named g (pos m) ≡ Some r → entry_fault g r ≡ None

-- Where a file can be made, what is extracted of it and dropped can be made too.
abbrev pub DroppedIsMade : Type 0
DroppedIsMade = (f g : Contents) (n : ℕ) → IsMade f → IsExtracted f n g → IsMade (dropped g)

-- Once unused items are dropped, the solid can be extracted again.
abbrev pub DroppedIsNotRefused : Type 0
DroppedIsNotRefused = (f g : Contents) (n : ℕ) (x : IsExtracted f n g) (entity : ℕ) (reason : ExtractReason)
    → ¬ IsRefused (dropped g) (new_number x.kept n) entity reason

-- Places that hold still hold.
abbrev pub PlacesStillHold : Type 0
PlacesStillHold = (g : Contents) (n : ℕ) → AllHold (places g n) → AllHold (places (dropped g) n)
