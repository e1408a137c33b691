-- The canonical text of a file.
use Rattle.std.specs.Prelude.{◌≡◌, ℕ, ◌+◌, ◌*◌, Bool, List, [], ◌∷◌, ◌++◌, length, map, drop, ℤ, pos, if◌then◌else◌, MatchBool, flat_map}
use Rattle.std.specs.Fmt.{decimal, signed_decimal}
use Rattle.std.specs.List.{AllZip, concat, enumerate_from}
use Rattle.std.specs.Ordering.{int_eq}
use Rattle.iges_fields.specs.declared.value.Value.{Value}
use Rattle.iges_fields.specs.declared.value.Value.TheVariants as value
use Rattle.iges_fields.specs.Delims.{Delims}
use Rattle.iges_base.specs.Word.{spaces}
use Rattle.iges_directory.specs.declared.entry.Entry.{Entry}
use Rattle.iges_params.specs.declared.global.Global26.{Global26}
use Rattle.iges_params.specs.Contents.{Contents}
use Rattle.iges_write.specs.Parts.{parts}
use Rattle.iges_write.specs.Filled.{IsFilled}
use Rattle.iges_lines.specs.Letters.{letter_S, letter_G, letter_D, letter_P, letter_T}

-- a text at the right of n columns; of a longer text the last n bytes
abbrev pub right : ℕ → List ℕ → List ℕ
right n text = drop (length text) (spaces n ++ text)

-- each line of 72 columns with its section's letter and its number
abbrev pub numbered : ℕ → List (List ℕ) → List (List ℕ)
numbered section ls = map (λ (l : ℕ × List ℕ). l.1 ++ section ∷ right 7 (decimal l.0)) (enumerate_from 1 ls)

-- a number in eight columns
abbrev pub column : ℤ → List ℕ
column n = right 8 (signed_decimal n)

-- the columns 1 to 72 of the first line of an entry, whose record begins at this line: nine fields
abbrev pub first_line : Entry → ℕ → List ℕ
first_line e first = concat
    (column e.kind ∷ column (pos first) ∷ column e.structure ∷ column e.font ∷ column e.level ∷ column e.view ∷ column e.matrix ∷ column e.display ∷ e.status
    ∷ [])

-- and of the second, where the record has so many lines
abbrev pub second_line : Entry → ℕ → List ℕ
second_line e count = concat
    (column e.kind ∷ column e.weight ∷ column e.colour ∷ column (pos count) ∷ column e.form ∷ spaces 8 ∷ spaces 8 ∷ e.label ∷ column e.subscript ∷ [])

-- the columns of the two lines of an entry
abbrev pub entry_lines : Entry → ℕ → ℕ → List (List ℕ)
entry_lines e first count = first_line e first ∷ second_line e count ∷ []

abbrev pub has_no_record : Entry → Bool
has_no_record e = int_eq e.kind (pos 0)

-- the first line of an entry's record, 0 where it has none
abbrev pub first_of : Entry → ℕ → ℕ
first_of e first = if has_no_record e then 0 else first

-- the directory of entries with the lines of their records, the first of which begins at this P line
abbrev pub directory_lines : ℕ → List (Entry × List Value) → List (List (List ℕ)) → List (List ℕ)
directory_lines first (e ∷ es) (record_lines ∷ records) =
    entry_lines e.0 (first_of e.0 first) (length record_lines) ++ directory_lines (first + length record_lines) es records
directory_lines first _ _ = []

-- the records, each line with its entry's number
abbrev pub param_lines : List (List (List ℕ)) → List (List ℕ)
param_lines records = flat_map (λ (r : ℕ × List (List ℕ)). map (λ l. l ++ 32 ∷ right 7 (decimal (2 * r.0 + 1))) r.1) (enumerate_from 0 records)

-- a section's letter and the number of its lines
abbrev pub count_field : ℕ → ℕ → List ℕ
count_field section n = section ∷ right 7 (decimal n)

-- the columns 1 to 72 of the terminate line, with the number of lines of each section
abbrev pub counts_columns : ℕ → ℕ → ℕ → ℕ → List ℕ
counts_columns start global directory params = count_field letter_S start ++ count_field letter_G global ++ count_field letter_D directory
    ++ count_field letter_P params ++ spaces 40

-- the global names its delimiters as two texts before its values
abbrev pub global_values : Global26 → List Value
global_values g = value.Text (g.delims.param ∷ []) ∷ value.Text (g.delims.end ∷ []) ∷ g.values

-- the lines of an entry's record: the type number and the values, filled into 64 columns
abbrev pub IsRecordText : Delims → Entry × List Value → List (List ℕ) → Type 0
IsRecordText d e ls = MatchBool (has_no_record e.0) (ls ≡ []) (IsFilled 64 (parts 64 d (value.Int e.0.kind ∷ e.1)) ls)

-- all lines of a file, of which these are the columns of the global and of the records
abbrev pub text_lines : Contents → List (List ℕ) → List (List (List ℕ)) → List (List ℕ)
text_lines f global records =
    let directory = directory_lines 1 f.entries records in
    let params = param_lines records in
    numbered letter_S f.start ++ numbered letter_G global ++ numbered letter_D directory ++ numbered letter_P params
    ++ numbered letter_T (counts_columns (length f.start) (length global) (length directory) (length params) ∷ [])

-- the canonical text of the file
pub record IsText (f : Contents) (bytes : List ℕ) : Type 0 where
  pub global : List (List ℕ)
  pub records : List (List (List ℕ))
  pub global_is : IsFilled 72 (parts 72 f.global.delims (global_values f.global)) global
  pub records_are : AllZip (IsRecordText f.global.delims) f.entries records
  pub bytes_are : bytes ≡ flat_map (λ l. l ++ 10 ∷ []) (text_lines f global records)
