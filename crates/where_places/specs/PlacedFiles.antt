-- A file that is kept with its bytes and the places of its entries.
use Rattle.std.specs.Prelude.{◌≡◌, ℕ, List}
use Rattle.where_places.specs.declared.placed_file.PlacedFile.{PlacedFile}
use Rattle.where_places.specs.Places.{HasPlaces}

-- These are the bytes, what they contain, and where its entries stand.
pub record IsPlacedFile (bytes : List ℕ) (p : PlacedFile) : Type 0 where
  pub bytes_are : p.bytes ≡ bytes
  pub at : HasPlaces bytes p.file p.places

-- Bytes are at most one file, and its entries stand at one place each.
abbrev pub OnePlacedFile : Type 0
OnePlacedFile = (bytes : List ℕ) (p q : PlacedFile) → IsPlacedFile bytes p → IsPlacedFile bytes q → p ≡ q
