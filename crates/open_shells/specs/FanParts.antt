-- What lies round each vertex of an open shell.
use Rattle.std.specs.Prelude.{◌≡◌, ◌<◌, ◌-◌, ℕ, List, [], ◌∷◌, length, Contains, Option, Some, None, ⊤, get_or}
use Rattle.std.specs.List.{AllByRecursion, AllZip}
use Rattle.solid_data.specs.Ring.{next_of_each}
use Rattle.solid_data.specs.Obligations.{FirstNot}
use Rattle.solid_data.specs.declared.spanning.Span.{Span}
use Rattle.solid_data.specs.Cells.{Celled}
use Rattle.solid_data.specs.Ranges.{IsWithin, IsSpanOf}
use Rattle.edge_uses.specs.ShellRows.{ShellRows}
use Rattle.edge_uses.specs.RowRelations.{StartsAt, Turns, point_count}
use Rattle.edge_uses.specs.Around.{IsPoint}
use Rattle.cert_state.specs.Progress.{start_count}
use Rattle.open_certificate.specs.Sound.{IsBorder, IsFanned}
use Rattle.open_certificate.specs.Progress.{IsChain, last_of}
use Rattle.shell_reach.specs.Reaching.{row_numbers}
use Rattle.open_certificate.specs.declared.parts.OpenCorner.{OpenCorner}
use Rattle.open_certificate.specs.declared.parts.OpenCorner.TheVariants.{Cycle, Path, Point}
use Rattle.open_shells.specs.declared.fanning.FanFault.{FanFault}
use Rattle.open_shells.specs.declared.fanning.FanFault.TheVariants.{NotFanned, NoMemory}

-- The rows that start at the vertex, as many as there are: from the least one on, each turns to the next, and the last to the first.
pub record IsCycle (d : ShellRows) (v r : ℕ) (rs : List ℕ) : Type 0 where
  pub starts : AllByRecursion (StartsAt d v) (r ∷ rs)
  pub once : length (r ∷ rs) ≡ start_count d v
  pub turns : AllZip (Turns d) (r ∷ rs) (next_of_each (r ∷ rs))
  pub least : AllByRecursion (λ x. r < x) rs
  pub no_point : point_count d v ≡ 0

-- The rows that start at the vertex, as many as there are: each turns to the next, and the last is a border row.
pub record IsPath (d : ShellRows) (v r : ℕ) (rs : List ℕ) : Type 0 where
  pub starts : AllByRecursion (StartsAt d v) (r ∷ rs)
  pub once : length (r ∷ rs) ≡ start_count d v
  pub turns : IsChain (Turns d) r rs
  pub ends : IsBorder d (last_of r rs)
  pub no_point : point_count d v ≡ 0

abbrev pub IsCycleOf : ShellRows → ℕ → List ℕ → Type 0
IsCycleOf d v [] = ⊥
IsCycleOf d v (r ∷ rs) = IsCycle d v r rs

abbrev pub IsPathOf : ShellRows → ℕ → List ℕ → Type 0
IsPathOf d v [] = ⊥
IsPathOf d v (r ∷ rs) = IsPath d v r rs

-- the rows of the vertex, or its one loop without an edge
abbrev pub LiesAt : ShellRows → ℕ → OpenCorner → Type 0
LiesAt d v (Cycle rows) = IsCycleOf d v (row_numbers rows)
LiesAt d v (Path rows) = IsPathOf d v (row_numbers rows)
LiesAt d v (Point at) = IsPoint d v × Contains d.points (at, v)

-- the least vertex that has no fan and isn't one loop without an edge
abbrev pub IsFanFault : ShellRows → FanFault → Type 0
IsFanFault d (NotFanned v) = FirstNot (IsFanned d) d.vertices v.0
IsFanFault d NoMemory = ⊤

-- a row of the vertex to which no row turns, or none where there is none
abbrev pub IsHeadOf : ShellRows → ℕ → Option ℕ → Type 0
IsHeadOf d v None = (x : ℕ) → StartsAt d v x → (t : ℕ) × Turns d t x
IsHeadOf d v (Some h) = StartsAt d v h × ((t : ℕ) → ¬ Turns d t h)

abbrev pub AreHeads : ShellRows → Span → List (Option ℕ) → Type 0
AreHeads d span heads = (v : ℕ) → IsWithin span v → IsHeadOf d v (get_or heads (v - span.least) None)

pub record AreHeadCells (d : ShellRows) (c : Celled (Option ℕ)) : Type 0 where
  pub span : IsSpanOf c.span d.vertices
  pub blank : c.blank ≡ None
  pub all : AreHeads d c.span c.cells
