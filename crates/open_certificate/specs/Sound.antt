-- What a sound open shell keeps. A row whose edge no other row has is a border row.
use Rattle.std.specs.Prelude.{◌≡◌, ℕ, ◌<◌, ◌==◌, ◌⊎◌, List, [], ◌∷◌, length, count_by, Some, slice_get}
use Rattle.std.specs.List.{AllByRecursion, AllZip}
use Rattle.solid_data.specs.Ring.{next_of_each, numbers_from}
use Rattle.solid_data.specs.Chain.{LeadsTo}
use Rattle.solid_data.specs.SolidData.{SolidData, PlacedLoop, placed_loops}
use Rattle.solid_data.specs.declared.solid.Shell.{Shell}
use Rattle.edge_uses.specs.declared.row.Row.{Row}
use Rattle.edge_uses.specs.ShellRows.{ShellRows, shell_rows}
use Rattle.edge_uses.specs.Joins.{IsJoined}
use Rattle.edge_uses.specs.RowRelations.{IsPaired, StartsAt, Turns, point_count}
use Rattle.edge_uses.specs.Around.{IsPoint, IsReached}

-- how many rows have the edge
abbrev pub row_total : ShellRows → ℕ → ℕ
row_total d e = count_by (λ (r : Row). r.edge.0 == e) d.rows

-- No other row has the edge of this one. So it has no mate, and no turn.
abbrev pub IsBorder : ShellRows → ℕ → Type 0
IsBorder d r = (row : Row) × (slice_get d.rows r ≡ Some row) × (row_total d row.edge.0 ≡ 1)

-- One row has the edge, which is a border row; or two rows have it, one along it and one against it, which are mates.
abbrev pub IsOnce : ShellRows → ℕ → Type 0
IsOnce d e = (row_total d e ≡ 1) ⊎ IsPaired d e

-- Rows start at the vertex, of any two of them turns lead from one to the other, and no loop without an edge lies there.
pub record IsFan (d : ShellRows) (v : ℕ) : Type 0 where
  pub some : (r : ℕ) × StartsAt d v r
  pub one_fan : (r s : ℕ) → StartsAt d v r → StartsAt d v s → LeadsTo (Turns d) r s ⊎ LeadsTo (Turns d) s r
  pub no_point : point_count d v ≡ 0

-- A fan, or no row and one loop without an edge.
abbrev pub IsFanned : ShellRows → ℕ → Type 0
IsFanned d v = IsFan d v ⊎ IsPoint d v

-- row s starts where row r ends
abbrev pub GoesOn : ShellRows → ℕ → ℕ → Type 0
GoesOn d r s = (a b : Row) × (slice_get d.rows r ≡ Some a) × (slice_get d.rows s ≡ Some b) × (a.to ≡ b.from)

-- A cycle of border rows, from the least on: each starts where the one before ends, and the first where the last ends.
pub record IsBorderCycle (d : ShellRows) (r : ℕ) (rs : List ℕ) : Type 0 where
  pub border : AllByRecursion (IsBorder d) (r ∷ rs)
  pub goes_on : AllZip (GoesOn d) (r ∷ rs) (next_of_each (r ∷ rs))
  pub least : AllByRecursion (λ x. r < x) rs

abbrev pub IsBorderCycleOf : ShellRows → List ℕ → Type 0
IsBorderCycleOf d [] = ⊥
IsBorderCycleOf d (r ∷ rs) = IsBorderCycle d r rs

-- The shell is sound: its loops join, each edge is used once or by mates, the faces are reached, and the rows at each vertex make one fan.
pub record IsSoundShell (s : SolidData) (shell : Shell) : Type 0 where
  pub joined : AllByRecursion (λ (p : PlacedLoop). IsJoined s p.loop) (placed_loops shell)
  pub once : AllByRecursion (IsOnce (shell_rows s shell)) (shell_rows s shell).edges
  pub reached : AllByRecursion (IsReached (shell_rows s shell)) (numbers_from 0 (length shell.faces))
  pub fanned : AllByRecursion (IsFanned (shell_rows s shell)) (shell_rows s shell).vertices
