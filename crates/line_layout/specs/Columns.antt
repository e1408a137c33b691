-- Columns of a line, and the numbers in them.
use Rattle.std.specs.Prelude.{ℕ, ◌-◌, Bool, false, ◌&&◌, ◌||◌, ◌+◌, ◌==◌, nat_lt, List, drop, map, ℤ, pos, negsuc, Option, Some, None, slice_index, slice_range, if◌then◌else◌}
use Rattle.std.specs.Option.{option_map_or}
use Rattle.std.specs.Ordering.{int_eq}
use Rattle.iges_base.specs.Word.{column_number}
use Rattle.line_layout.specs.Marks.{is_blank_byte}

-- columns a to b of a line, counted from 1
abbrev pub columns : ℕ → ℕ → List ℕ → List ℕ
columns a b line = slice_range line (a - 1) b

abbrev pub has_number : List ℕ → ℕ → Bool
has_number field n = option_map_or (λ z. int_eq z (pos n)) (column_number field) false

-- the letter and then the count
abbrev pub has_count : ℕ → ℕ → List ℕ → Bool
has_count letter n field = slice_index field 0 == letter && has_number (drop 1 field) n

-- a blank byte as a space
abbrev pub plain : ℕ → ℕ
plain b = if is_blank_byte b then 32 else b

-- the number of a field as it stands; otherwise with its blank bytes as spaces
abbrev pub or_plain : Option ℤ → List ℕ → Option ℤ
or_plain (Some z) field = Some z
or_plain None field = column_number (map plain field)

-- 0 for a number below 0
abbrev pub natural : ℤ → ℕ
natural (pos n) = n
natural (negsuc n) = 0

-- The number in a field, whatever blank bytes are around it. It is 0 where there is none, or one below 0.
abbrev pub number_in : List ℕ → ℕ
number_in field = option_map_or natural (or_plain (column_number field) field) 0

-- the letter, in lower case too
abbrev pub is_letter : ℕ → ℕ → Bool
is_letter letter b = b == letter || b == letter + 32

-- the letter and then a greater count
abbrev pub has_greater : ℕ → ℕ → List ℕ → Bool
has_greater letter n field = is_letter letter (slice_index field 0) && nat_lt n (number_in (drop 1 field))
