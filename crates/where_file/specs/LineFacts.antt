-- The facts of a line of the file that fails.
use Rattle.std.specs.Prelude.{ℕ, ◌+◌, ◌-◌, ◌/◌, ◌%◌, Bool, true, false, List, [], ◌∷◌, ◌++◌, length, take, drop, flat_map, nat_lt, Option, Some, None, if◌then◌else◌}
use Rattle.std.specs.Prelude.{codes, decimal}
use Rattle.iges_lines.specs.declared.reason.Reason.{Reason}
use Rattle.iges_lines.specs.declared.reason.Reason.TheVariants as reason
use Rattle.where_text.specs.Spelled.{space_word}
use Rattle.where_file.specs.declared.fields.Field.{Field}
use Rattle.where_places.specs.FileLine.{has_cr, has_lf, line_of}
use Rattle.value_lines.specs.ValueLines.{mark_fact, text_fact}

-- how a line ends: with LF or CR LF, or, at the end of the file, with a CR alone or without anything
abbrev pub end_word : Bool → Bool → List ℕ
end_word true false = codes "lf"
end_word true true = codes "crlf"
end_word false true = codes "cr"
end_word false false = codes "none"

-- the line's number, how many bytes it has, and its end
unfoldable pub line_head : ℕ → List ℕ → List ℕ
line_head n bytes =
    codes "line" ++ space_word (decimal n) ++ codes " bytes" ++ space_word (decimal (length (line_of bytes)))
    ++ codes " end" ++ space_word (end_word (has_lf bytes) (has_cr bytes)) ++ codes "\n"

-- ---- the field of a line that is wrong

-- the columns of which a reason speaks, where it tells them
abbrev pub field_of : Reason → Option Field
field_of reason.Letter = Some (record { column = 73; width = 1 })
field_of reason.Number = Some (record { column = 74; width = 7 })
field_of reason.TypesDiffer = Some (record { column = 1; width = 8 })
field_of reason.Range = Some (record { column = 25; width = 8 })
field_of reason.BackPointer = Some (record { column = 66; width = 7 })
field_of reason.RecordType = Some (record { column = 1; width = 8 })
field_of _ = None

-- ---- the facts

abbrev pub hex_digit : ℕ → ℕ
hex_digit d = if nat_lt d 10 then 48 + d else 87 + d

-- a byte as two hexadecimal digits
unfoldable pub hex_byte : ℕ → List ℕ
hex_byte b = hex_digit (b / 16) ∷ hex_digit (b % 16) ∷ []

unfoldable pub hex_words : List ℕ → List ℕ
hex_words bytes = flat_map (λ b. space_word (hex_byte b)) bytes

-- where the bytes that are shown begin, from 0
abbrev pub start_of : Option Field → ℕ
start_of None = 0
start_of (Some f) = f.column - 1

unfoldable pub hex_fact : List ℕ → List ℕ
hex_fact bytes = codes "  hex" ++ hex_words (take 16 bytes) ++ codes "\n"

abbrev pub column_fact : Option Field → List ℕ
column_fact None = []
column_fact (Some f) = codes "  column" ++ space_word (decimal f.column) ++ codes "\n"

-- below the columns of the field
abbrev pub field_mark : Option Field → List ℕ
field_mark None = []
field_mark (Some f) = mark_fact (f.column - 1) f.width

-- of a line that isn't empty: bytes from the field on, its column, the first 80 bytes, and a mark below the field
unfoldable pub line_facts : Option Field → List ℕ → List ℕ
line_facts field [] = []
line_facts field (b ∷ line) =
    hex_fact (drop (start_of field) (b ∷ line)) ++ column_fact field ++ text_fact (take 80 (b ∷ line)) ++ field_mark field
