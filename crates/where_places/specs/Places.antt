-- Where the entries of a file stand in its lines.
use Rattle.std.specs.Prelude.{◌≡◌, ℕ, ◌+◌, List, length, map, unsigned_abs}
use Rattle.iges_lines.specs.Lines.{SectionLines}
use Rattle.iges_directory.specs.declared.entry.Placed.{Placed}
use Rattle.iges_params.specs.Contents.{Contents}
use Rattle.iges_params.specs.IsFile.{IsFile}
use Rattle.where_places.specs.declared.places.RecordLines.{RecordLines}

-- how many lines come before those of the directory, and before those of the records; and for each entry the lines of its record
pub record EntryPlaces : Type 0 where
  pub before_directory : ℕ
  pub before_records : ℕ
  pub records : List RecordLines

-- fields 2 and 14 of an entry
abbrev pub record_lines_of : Placed → RecordLines
record_lines_of p = record { first = unsigned_abs p.first; count = unsigned_abs p.count }

-- the places of these entries in these lines
abbrev pub places_of : SectionLines → List Placed → EntryPlaces
places_of s ps = record {
  before_directory = length s.start + length s.global;
  before_records = length s.start + length s.global + length s.directory;
  records = map record_lines_of ps;
}

-- The bytes are a file with these contents, and its entries stand at these places.
pub record HasPlaces (bytes : List ℕ) (f : Contents) (places : EntryPlaces) : Type 0 where
  pub file : IsFile bytes f
  pub places_are : places ≡ places_of file.sections file.placed
