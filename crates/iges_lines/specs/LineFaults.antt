-- The first line at which the sections fail.
use Rattle.std.specs.Prelude.{◌≡◌, ℕ, suc, ◌+◌, Bool, not, ◌&&◌, ◌||◌, ◌==◌, nat_lt, nat_le, List, [], ◌∷◌, length, take, drop, Option, Some, None}
use Rattle.std.specs.Prelude.{if◌then◌else◌, slice_get, slice_index, slice_index_or, filter, codes}
use Rattle.std.specs.List.{list_any, list_all, position_or_len}
use Rattle.iges_base.specs.Word.{is_empty}
use Rattle.iges_base.specs.First.{first_failing, IsFirst}
use Rattle.iges_lines.specs.Letters.{letter_S, letter_G, letter_D, letter_P, letter_T}
use Rattle.iges_lines.specs.declared.reason.Reason.{Reason}
use Rattle.iges_lines.specs.declared.reason.Reason.TheVariants.{NotFixed, Length, Letter, Number, Counts, Missing, After}
use Rattle.iges_lines.specs.declared.fault.LineFault.{LineFault}
use Rattle.iges_lines.specs.Lines.{SectionLines, sections, lines, columns, letter, has_number}
use Rattle.iges_lines.specs.Sectioned.{is_blank}

-- the place of a letter in S G D P T, from 0, and 5 for another
abbrev pub section_place : ℕ → ℕ
section_place b = position_or_len (λ x. x == b) (codes "SGDPT")

abbrev pub of_letter : ℕ → List (List ℕ) → List (List ℕ)
of_letter b ls = filter (λ l. letter l == b) ls

-- the lines by their letters
abbrev pub sections_of : List (List ℕ) → SectionLines
sections_of ls = record { start = of_letter letter_S ls; global = of_letter letter_G ls; directory = of_letter letter_D ls; param = of_letter letter_P ls }

-- the letter of a section, and the number of its lines
abbrev pub has_count : ℕ → List (List ℕ) → List ℕ → Bool
has_count section ls field = slice_index field 0 == section && has_number (drop 1 field) (length ls)

-- the tests of a line whose letter has this place, in order, where these are the lines before it
abbrev pub tests_at : SectionLines → ℕ → List ℕ → List (Bool × Reason)
tests_at s place line =
    let is_first = list_all is_empty (sections s) in
    (not (is_first && (letter line == 66 || letter line == 67)), NotFixed) ∷
    (length line == 80, Length) ∷
    (nat_lt place 5 && list_all is_empty (drop (suc place) (sections s)), Letter) ∷
    ((not is_first || place == 0) && (nat_le place 1 || not (is_empty s.global)), Missing) ∷
    (has_number (columns 74 80 line) (length (slice_index_or (sections s) place []) + 1), Number) ∷ (
      nat_lt place 4 || (has_count letter_S s.start (columns 1 8 line) && has_count letter_G s.global (columns 9 16 line)
          && has_count letter_D s.directory (columns 17 24 line) && has_count letter_P s.param (columns 25 32 line)),
      Counts,
    ) ∷ []

abbrev pub line_tests : SectionLines → List ℕ → List (Bool × Reason)
line_tests s line = tests_at s (section_place (letter line)) line

abbrev pub is_terminated : List (List ℕ) → Bool
is_terminated before = list_any (λ l. letter l == letter_T) before

-- What is wrong with a line, or with the end, where these lines come before it. After the T line only After is judged.
abbrev pub fault_behind : List (List ℕ) → Option (List ℕ) → Option Reason
fault_behind before None = if is_terminated before then None else Some Missing
fault_behind before (Some line) = first_failing (if is_terminated before then (is_blank line, After) ∷ [] else line_tests (sections_of before) line)

abbrev pub line_fault : List (List ℕ) → ℕ → Option Reason
line_fault ls i = fault_behind (take i ls) (slice_get ls i)

-- the first line that fails, or the end
abbrev pub IsLineFault : List ℕ → LineFault → Type 0
IsLineFault bytes fault = (place : ℕ) × (fault.line ≡ place + 1) × IsFirst (line_fault (lines bytes)) place fault.reason
