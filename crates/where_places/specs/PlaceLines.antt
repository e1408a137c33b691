-- The fact that tells the lines of an entity.
use Rattle.std.specs.Prelude.{ℕ, ◌+◌, ◌-◌, ◌/◌, List, [], ◌++◌, Option, Some, None, slice_get, codes, decimal}
use Rattle.where_places.specs.declared.places.RecordLines.{RecordLines}
use Rattle.where_places.specs.Places.{EntryPlaces}

abbrev pub space_number : ℕ → List ℕ
space_number n = codes " " ++ decimal n

-- the line in which an entry begins, and the first and the last of its record
unfoldable pub lines_words : ℕ → ℕ → ℕ → List ℕ
lines_words entry first last =
    codes "  lines directory" ++ space_number entry ++ codes " record" ++ space_number first ++ space_number last ++ codes "\n"

-- an entry's number is that of its first line in the directory
abbrev pub lines_in : EntryPlaces → ℕ → Option RecordLines → List ℕ
lines_in x n None = []
lines_in x n (Some r) = lines_words (x.before_directory + n) (x.before_records + r.first) (x.before_records + r.first + r.count - 1)

-- the fact of the entry with number n; nothing where the directory has no such entry
abbrev pub lines_fact : EntryPlaces → ℕ → List ℕ
lines_fact x n = lines_in x n (slice_get x.records (n / 2))
