-- The directory: two lines of ten fields of eight columns for each entry.
use Rattle.std.specs.Prelude.{◌≡◌, ℕ, ◌+◌, ◌-◌, ◌*◌, Bool, ◌&&◌, ◌||◌, ◌==◌, List, [], ◌∷◌, map, ℤ, pos, ◌+ℤ◌, int_le, Some, IsTrue, if◌then◌else◌}
use Rattle.std.specs.Char.{is_ascii_digit}
use Rattle.std.specs.List.{list_all}
use Rattle.std.specs.Ordering.{int_eq}
use Rattle.iges_base.specs.Word.{column_number}
use Rattle.iges_lines.specs.Lines.{columns}
use Rattle.iges_directory.specs.declared.entry.Placed.{Placed}

-- the k-th field of a line, from 1
abbrev pub field : ℕ → List ℕ → List ℕ
field k line = columns (8 * k - 7) (8 * k) line

-- each space of the status counts as 0
abbrev pub status_of : List ℕ → List ℕ
status_of bytes = map (λ b. if b == 32 then 48 else b) bytes

-- the field holds the number
abbrev pub Holds : ℕ → List ℕ → ℤ → Type 0
Holds k line n = column_number (field k line) ≡ Some n

-- the two lines hold the entry
pub record IsEntry (first second : List ℕ) (p : Placed) : Type 0 where
  pub kind : Holds 1 first p.entry.kind
  pub record_first : Holds 2 first p.first
  pub structure : Holds 3 first p.entry.structure
  pub font : Holds 4 first p.entry.font
  pub level : Holds 5 first p.entry.level
  pub view : Holds 6 first p.entry.view
  pub matrix : Holds 7 first p.entry.matrix
  pub display : Holds 8 first p.entry.display
  pub status : p.entry.status ≡ status_of (field 9 first)
  pub status_digits : IsTrue (list_all is_ascii_digit p.entry.status)
  pub kind_again : Holds 1 second p.entry.kind
  pub weight : Holds 2 second p.entry.weight
  pub colour : Holds 3 second p.entry.colour
  pub record_count : Holds 4 second p.count
  pub form : Holds 5 second p.entry.form
  pub label : p.entry.label ≡ field 8 second
  pub subscript : Holds 9 second p.entry.subscript

-- an entry of type 0 has no record; that of another has one line or more of the P lines, of which there are n
abbrev pub has_record : ℕ → ℤ → ℤ → ℤ → Bool
has_record n kind first count = int_eq kind (pos 0) || (int_le (pos 1) first && int_le (pos 1) count && int_le (first +ℤ count) (pos (n + 1)))

-- each two lines hold an entry, whose record lies among n P lines
abbrev pub AreEntries : ℕ → List (List ℕ) → List Placed → Type 0
AreEntries n [] [] = Unit {0}
AreEntries n (first ∷ second ∷ lines) (p ∷ ps) = IsEntry first second p × IsTrue (has_record n p.entry.kind p.first p.count) × AreEntries n lines ps
AreEntries n (first ∷ second ∷ lines) [] = ⊥
AreEntries n (first ∷ []) ps = ⊥
AreEntries n [] (p ∷ ps) = ⊥
