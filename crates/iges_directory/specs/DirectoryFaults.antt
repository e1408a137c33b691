-- The first line of the directory that fails.
use Rattle.std.specs.Prelude.{◌≡◌, ℕ, zero, suc, ◌+◌, Bool, true, false, not, ◌&&◌, List, [], ◌∷◌, length, ℤ, pos, Option, None, is_some, unwrap_or}
use Rattle.std.specs.Char.{is_ascii_digit}
use Rattle.std.specs.List.{list_all}
use Rattle.std.specs.Ordering.{int_eq}
use Rattle.iges_base.specs.Word.{column_number}
use Rattle.iges_base.specs.First.{first_failing, IsFirst}
use Rattle.iges_lines.specs.declared.reason.Reason.{Reason}
use Rattle.iges_lines.specs.declared.reason.Reason.TheVariants.{Unpaired, Field, TypesDiffer, Range}
use Rattle.iges_lines.specs.declared.fault.LineFault.{LineFault}
use Rattle.iges_lines.specs.Lines.{SectionLines}
use Rattle.iges_directory.specs.Entries.{field, status_of, has_record}

abbrev pub number_in : ℕ → List ℕ → ℤ
number_in k line = unwrap_or (column_number (field k line)) (pos 0)

-- these fields hold numbers
abbrev pub are_numbers : List ℕ → List ℕ → Bool
are_numbers ks line = list_all (λ k. is_some (column_number (field k line))) ks

-- the fields of an entry's first line are right
abbrev pub first_fields : List ℕ → Bool
first_fields line = are_numbers (1 ∷ 2 ∷ 3 ∷ 4 ∷ 5 ∷ 6 ∷ 7 ∷ 8 ∷ []) line && list_all is_ascii_digit (status_of (field 9 line))

-- the fields of its second line are right; the reserved ones and the label may be any
abbrev pub second_fields : List ℕ → Bool
second_fields line = are_numbers (1 ∷ 2 ∷ 3 ∷ 4 ∷ 5 ∷ 9 ∷ []) line

-- the tests of an entry's first line; only the last line of a directory has none after it
abbrev pub first_tests : Bool → List ℕ → List (Bool × Reason)
first_tests is_last line = (not is_last, Unpaired) ∷ (first_fields line, Field) ∷ []

-- the tests of its second line, among n P lines
abbrev pub second_tests : ℕ → List ℕ → List ℕ → List (Bool × Reason)
second_tests n first second =
    (second_fields second, Field) ∷
    (int_eq (number_in 1 first) (number_in 1 second), TypesDiffer) ∷
    (has_record n (number_in 1 first) (number_in 2 first) (number_in 4 second), Range) ∷ []

-- what is wrong with a D line, counted from 0, among n P lines
abbrev pub directory_fault : ℕ → List (List ℕ) → ℕ → Option Reason
directory_fault n (first ∷ second ∷ lines) zero = first_failing (first_tests false first)
directory_fault n (first ∷ second ∷ lines) (suc zero) = first_failing (second_tests n first second)
directory_fault n (first ∷ second ∷ lines) (suc (suc i)) = directory_fault n lines i
directory_fault n (first ∷ []) zero = first_failing (first_tests true first)
directory_fault n (first ∷ []) (suc i) = None
directory_fault n [] i = None

abbrev pub IsDirectoryFault : SectionLines → LineFault → Type 0
IsDirectoryFault s fault =
    (place : ℕ) × (fault.line ≡ length s.start + length s.global + place + 1) × IsFirst (directory_fault (length s.param) s.directory) place fault.reason
