-- A value for each number of a range.
use Rattle.std.specs.Prelude.{◌≡◌, ℕ, ◌==◌, ◌-◌, Bool, true, false, List, [], ◌∷◌, length, map, get_or, slice_set, if◌then◌else◌}
use Rattle.std.specs.List.Sorted.{IsStrictlyIncreasing}
use Rattle.solid_data.specs.Ring.{numbers_from}
use Rattle.solid_data.specs.Ranges.{IsSpanOf}
use Rattle.solid_data.specs.declared.spanning.Span.{Span}

-- numbers, their range, the value of those that have none of their own, and the value of each number of the range
pub record Celled (T : Type 0) : Type 0 where
  pub numbers : List ℕ
  pub span : Span
  pub blank : T
  pub cells : List T

-- the value of a number of the range
abbrev pub cell_of : {T : Type 0} → Celled T → ℕ → T
cell_of c n = get_or c.cells (n - c.span.least) c.blank

-- another value for a number of the range
abbrev pub with_cell : {T : Type 0} → Celled T → ℕ → T → Celled T
with_cell c n value = record { numbers = c.numbers; span = c.span; blank = c.blank; cells = slice_set c.cells (n - c.span.least) value }

-- the value beside a number, where two lists stand side by side
abbrev pub beside : {T : Type 0} → T → List ℕ → List T → ℕ → T
beside blank [] vs n = blank
beside blank (m ∷ ms) [] n = blank
beside blank (m ∷ ms) (v ∷ vs) n = if m == n then v else beside blank ms vs n

-- the value of each number of the range: of far numbers, which alone have values, the one beside it
abbrev pub cells_of : {T : Type 0} → Bool → List ℕ → Span → T → List T → List T
cells_of true numbers span blank values = map (beside blank numbers values) (numbers_from span.least span.count)
cells_of false numbers span blank values = values

abbrev pub value_count : Bool → List ℕ → Span → ℕ
value_count true numbers span = length numbers
value_count false numbers span = span.count

pub record AreCells {T : Type 0} (far : Bool) (numbers : List ℕ) (span : Span) (values : List T) : Type 0 where
  pub rise : IsStrictlyIncreasing numbers
  pub range : IsSpanOf span numbers
  pub long : length values ≡ value_count far numbers span
