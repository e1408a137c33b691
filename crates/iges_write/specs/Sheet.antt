-- Private: lines that are written one after the other.
use Rattle.std.specs.Prelude.{◌≡◌, ℕ, ◌+◌, ◌<◌, ◌≤◌, nat_le, true, false, List, [], ◌∷◌, ◌++◌, length, Option, Some, None, Result, Ok, Err}
use Rattle.std.specs.Fmt.{decimal}
use Rattle.iges_base.specs.declared.TheConstants.{FILE_LIMIT}
use Rattle.iges_fields.specs.declared.value.Value.{Value}
use Rattle.iges_fields.specs.Delims.{Delims}
use Rattle.iges_write.specs.declared.fault.WriteFileFault.{WriteFileFault}
use Rattle.iges_write.specs.declared.fault.WriteFileFault.TheVariants as fault
use Rattle.iges_write.specs.Filled.{padded}
use Rattle.iges_write.specs.Text.{count_field, right}

-- The finished lines, and the one that is being made.
pub record Sheet : Type 0 where
  pub text : List ℕ
  pub line : List ℕ
  -- what comes after the columns of a line, before the section's letter
  pub tail : List ℕ
  pub letter : ℕ
  pub number : ℕ
  pub width : ℕ
  pub limit : ℕ

-- columns, with the letter and number of their line
unfoldable pub whole_line : List ℕ → ℕ → ℕ → List ℕ → List ℕ
whole_line tail letter number columns = columns ++ tail ++ letter ∷ right 7 (decimal number) ++ 10 ∷ []

-- the line being made, to its end
abbrev pub ended : Sheet → List ℕ
ended s = whole_line s.tail s.letter s.number (padded s.width s.line)

abbrev pub end_line : Sheet → Sheet
end_line s = record { text = s.text ++ ended s; line = []; tail = s.tail; letter = s.letter; number = s.number + 1; width = s.width; limit = s.limit }

-- the bytes at the end of the line being made
abbrev pub add : Sheet → List ℕ → Sheet
add s bytes = record { text = s.text; line = s.line ++ bytes; tail = s.tail; letter = s.letter; number = s.number; width = s.width; limit = s.limit }

-- a line with room for so many bytes
abbrev pub make_room : Sheet → ℕ → Sheet
make_room s size = elim (nat_le (length s.line + size) s.width) [ true ↦ s | false ↦ end_line s ]

abbrev pub put_part : Sheet → List ℕ → Sheet
put_part s part = add (make_room s (length part)) part

unfoldable pub put_parts : Sheet → List (List ℕ) → Sheet
put_parts s [] = s
put_parts s (part ∷ parts) = put_parts (put_part s part) parts

-- these lines, numbered from here on
unfoldable pub page_lines : List ℕ → ℕ → ℕ → List (List ℕ) → List ℕ
page_lines tail letter number [] = []
page_lines tail letter number (columns ∷ lines) = whole_line tail letter number columns ++ page_lines tail letter (number + 1) lines

-- these lines, ended
abbrev pub put_lines : Sheet → List (List ℕ) → Sheet
put_lines s lines = record {
  text = s.text ++ page_lines s.tail s.letter s.number lines;
  line = [];
  tail = s.tail;
  letter = s.letter;
  number = s.number + length lines;
  width = s.width;
  limit = s.limit;
}

-- a sheet at the first line of a section
abbrev pub begin : Sheet → ℕ → ℕ → Sheet
begin s letter width = record { text = s.text; line = []; tail = []; letter = letter; number = 1; width = width; limit = s.limit }

abbrev pub with_tail : Sheet → List ℕ → Sheet
with_tail s tail = record { text = s.text; line = s.line; tail = tail; letter = s.letter; number = s.number; width = s.width; limit = s.limit }

-- a finished text after the text
abbrev pub append_text : Sheet → List ℕ → Sheet
append_text s more = record { text = s.text ++ more; line = s.line; tail = s.tail; letter = s.letter; number = s.number; width = s.width; limit = s.limit }

-- what comes after the columns of a record's line
abbrev pub record_tail : ℕ → List ℕ
record_tail number = 32 ∷ right 7 (decimal number)

-- What a sheet of bytes always keeps.
pub record IsSheet (text : List ℕ) (number limit : ℕ) : Type 0 where
  pub within : length text ≤ limit
  pub small : limit ≤ FILE_LIMIT
  pub numbered : number ≤ length text + 1

-- why the next sheet is not made
abbrev pub Fails : WriteFileFault → Sheet → Type 0
Fails fault.TooLarge next = next.limit < length next.text
Fails fault.NoMemory next = Unit {0}

-- what comes after the columns of a line, where anything does
abbrev pub tail_bytes : Option (List ℕ) → List ℕ
tail_bytes (Some tail) = tail
tail_bytes None = []

-- What a page always keeps: it is a sheet of bytes, knows how the line being made will end, and that line is within its width.
pub record IsPage (text line ending : List ℕ) (letter number width limit : ℕ) : Type 0 where
  pub sheet : IsSheet text number limit
  pub ending_is : ending ≡ count_field letter number
  pub wide : 0 < width
  pub narrow : width ≤ 72
  pub held : length line ≤ width

-- the next sheet, or it is too large
abbrev pub Steps : {A : Type 0} → Result A WriteFileFault → Sheet → Sheet → Type 0
Steps (Ok x) new next = new ≡ next
Steps (Err f) new next = Fails f next

-- the delimiter before these values
abbrev pub next_delimiter : Delims → List Value → ℕ
next_delimiter d [] = d.end
next_delimiter d (v ∷ values) = d.param

-- ---- the sheets of the directory and of the records

-- a sheet of the directory and one of records, with no line begun
pub record Both (page params : Sheet) : Type 0 where
  pub page_line : page.line ≡ []
  pub page_width : page.width ≡ 72
  pub params_line : params.line ≡ []
  pub params_tail : params.tail ≡ []
  pub params_width : params.width ≡ 64
  pub limit : page.limit ≡ params.limit

-- why two sheets are not made: their texts together are too large
abbrev pub FailsBoth : WriteFileFault → Sheet → Sheet → Type 0
FailsBoth fault.TooLarge page params = page.limit < length page.text + length params.text
FailsBoth fault.NoMemory page params = Unit {0}

-- the next two sheets, or together they are too large
abbrev pub StepsBoth : {A : Type 0} → Result A WriteFileFault → Sheet → Sheet → Sheet → Sheet → Type 0
StepsBoth (Ok x) page next_page params next_params = (page ≡ next_page) × (params ≡ next_params)
StepsBoth (Err f) page next_page params next_params = FailsBoth f next_page next_params
