-- The cycles of border rows of an open shell.
use Rattle.std.specs.Prelude.{◌≡◌, ◌<◌, ◌-◌, ◌↔◌, ℕ, Bool, true, false, List, [], ◌∷◌, length, map, flat_map, Option, Some, None, get_or}
use Rattle.std.specs.List.{AllByRecursion}
use Rattle.solid_data.proofs.Members.{Has, NoRepeat, Rises}
use Rattle.solid_data.proofs.Trail.{Trail}
use Rattle.solid_data.specs.declared.spanning.Span.{Span}
use Rattle.solid_data.specs.Cells.{Celled}
use Rattle.solid_data.specs.Ranges.{IsWithin, IsSpanOf}
use Rattle.edge_uses.specs.ShellRows.{ShellRows}
use Rattle.edge_uses.specs.RowRelations.{StartsAt}
use Rattle.open_certificate.specs.Sound.{IsBorder, IsBorderCycleOf, GoesOn}

-- from a border row to the border row that starts where it ends
abbrev pub Next : ShellRows → ℕ → ℕ → Type 0
Next d a b = IsBorder d a × IsBorder d b × GoesOn d a b

-- a border row that starts at the vertex, or none where none does
abbrev pub IsStartOf : ShellRows → ℕ → Option ℕ → Type 0
IsStartOf d v None = (r : ℕ) → IsBorder d r → ¬ StartsAt d v r
IsStartOf d v (Some r) = IsBorder d r × StartsAt d v r

abbrev pub AreStartsOf : ShellRows → Span → List (Option ℕ) → Type 0
AreStartsOf d span starts = (v : ℕ) → IsWithin span v → IsStartOf d v (get_or starts (v - span.least) None)

pub record AreBorderCells (d : ShellRows) (c : Celled (Option ℕ)) : Type 0 where
  pub span : IsSpanOf c.span d.vertices
  pub blank : c.blank ≡ None
  pub all : AreStartsOf d c.span c.cells

-- From the first on each row leads to the next, and the last to the first, which is there once.
abbrev pub IsLoop : ShellRows → ℕ → List ℕ → Type 0
IsLoop d first [] = ⊥
IsLoop d first (x ∷ xs) = (x ≡ first) × Trail (Next d) first xs first × (¬ Has xs first)

abbrev pub rows_of_cycle : List ℕ → List ℕ
rows_of_cycle rs = rs

-- the rows of the cycles
abbrev pub flat : List (List ℕ) → List ℕ
flat cycles = flat_map rows_of_cycle cycles

abbrev pub first_in : List ℕ → ℕ
first_in [] = 0
first_in (x ∷ xs) = x

-- Cycles of border rows, by their first rows, which are the least, in which each border row is once.
pub record AreBorderCycles (d : ShellRows) (cycles : List (List ℕ)) : Type 0 where
  pub each : AllByRecursion (IsBorderCycleOf d) cycles
  pub rises : Rises (map first_in cycles)
  pub apart : NoRepeat (flat cycles)
  pub all : (r : ℕ) → IsBorder d r → Has (flat cycles) r

-- The cycles that begin with one of the first rows, and which rows they hold.
pub record IsBordering (d : ShellRows) (i : ℕ) (seen : List Bool) (cycles : List (List ℕ)) : Type 0 where
  pub long : length seen ≡ length d.rows
  pub marks : (x : ℕ) → (get_or seen x false ≡ true) ↔ Has (flat cycles) x
  pub each : AllByRecursion (IsBorderCycleOf d) cycles
  pub below : AllByRecursion (λ x. x < i) (map first_in cycles)
  pub rises : Rises (map first_in cycles)
  pub apart : NoRepeat (flat cycles)
  pub closed : (x y : ℕ) → Has (flat cycles) x → Next d x y → Has (flat cycles) y
  pub all : (x : ℕ) → x < i → IsBorder d x → Has (flat cycles) x
