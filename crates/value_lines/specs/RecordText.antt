-- The text of a record in the lines of a file.
use Rattle.std.specs.Prelude.{ℕ, zero, suc, ◌-◌, List, [], ◌++◌, take}
use Rattle.where_places.specs.FileLine.{from_line, line_of}

-- columns 1 to 64 of so many lines, of which the first is at the front
unfoldable pub text_columns : ℕ → List ℕ → List ℕ
text_columns zero bytes = []
text_columns (suc n) bytes = take 64 (line_of bytes) ++ text_columns n (from_line 1 bytes)

-- the same of the line of a file with this number, from 1, and those behind it
unfoldable pub record_text : List ℕ → ℕ → ℕ → List ℕ
record_text bytes first count = text_columns count (from_line (first - 1) bytes)
