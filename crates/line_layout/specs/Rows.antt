-- The lines that are written.
use Rattle.std.specs.Prelude.{ℕ, ◌&&◌, Bool, nat_le, List, ◌∷◌, ◌++◌, length, drop, if◌then◌else◌}
use Rattle.std.specs.Fmt.{decimal}
use Rattle.iges_base.specs.Word.{spaces}
use Rattle.line_layout.specs.declared.counting.LineCounts.{LineCounts}
use Rattle.line_layout.specs.declared.letters.Section.{Section}
use Rattle.line_layout.specs.declared.letters.Section.TheVariants.{Start, Global, Directory, Param, Terminate}
use Rattle.line_layout.specs.Columns.{columns, has_number, has_count}
use Rattle.line_layout.specs.Counts.{next_number}
use Rattle.line_layout.specs.Letters.{letter_of}

-- a text at the right of n columns; of a longer text the last n bytes
abbrev pub right : ℕ → List ℕ → List ℕ
right n text = drop (length text) (spaces n ++ text)

-- a section's letter and the number of its lines
abbrev pub count_field : ℕ → ℕ → List ℕ
count_field letter n = letter ∷ right 7 (decimal n)

-- the columns 1 to 72 of a terminate line
unfoldable pub counts_columns : LineCounts → List ℕ
counts_columns c = count_field 83 c.start ++ count_field 71 c.global ++ count_field 68 c.directory ++ count_field 80 c.param ++ spaces 40

-- the line gives these counts
abbrev pub has_counts : LineCounts → List ℕ → Bool
has_counts c line =
    has_count 83 c.start (columns 1 8 line) && has_count 71 c.global (columns 9 16 line)
    && has_count 68 c.directory (columns 17 24 line) && has_count 80 c.param (columns 25 32 line)

-- The columns 1 to 72: those of the line. Only a terminate line with other counts gets new ones.
unfoldable pub content : LineCounts → Section → List ℕ → List ℕ
content c Start line = columns 1 72 line
content c Global line = columns 1 72 line
content c Directory line = columns 1 72 line
content c Param line = columns 1 72 line
content c Terminate line = if has_counts c line then columns 1 72 line else counts_columns c

-- the line has all columns, and those from 74 on hold the number
abbrev pub keeps_number : ℕ → List ℕ → Bool
keeps_number n line = nat_le 80 (length line) && has_number (columns 74 80 line) n

-- the columns 74 to 80: those of the line where they hold the number
unfoldable pub number_field : ℕ → List ℕ → List ℕ
number_field n line = if keeps_number n line then columns 74 80 line else right 7 (decimal n)

unfoldable pub row : LineCounts → Section → List ℕ → List ℕ
row c s line = content c s line ++ letter_of s ∷ number_field (next_number c s) line
