-- What lies round a vertex, and which faces are reached.
use Rattle.std.specs.Prelude.{◌≡◌, ℕ, ◌⊎◌}
use Rattle.solid_data.specs.Chain.{LeadsTo}
use Rattle.edge_uses.specs.ShellRows.{ShellRows}
use Rattle.edge_uses.specs.RowRelations.{AreMates, Turns, StartsAt, OnFace, point_count}

-- Rows start at the vertex, turns lead from any one of them to any other, and no loop without an edge lies there.
pub record IsCorner (d : ShellRows) (v : ℕ) : Type 0 where
  pub some : (r : ℕ) × StartsAt d v r
  pub one_cycle : (r s : ℕ) → StartsAt d v r → StartsAt d v s → LeadsTo (Turns d) r s
  pub no_point : point_count d v ≡ 0

-- No row starts there, and one loop without an edge lies there.
pub record IsPoint (d : ShellRows) (v : ℕ) : Type 0 where
  pub no_row : (r : ℕ) → ¬ StartsAt d v r
  pub one_point : point_count d v ≡ 1

abbrev pub IsLinked : ShellRows → ℕ → Type 0
IsLinked d v = IsCorner d v ⊎ IsPoint d v

-- face a holds a row whose mate face b holds
abbrev pub AreNeighbours : ShellRows → ℕ → ℕ → Type 0
AreNeighbours d a b = (r m : ℕ) × AreMates d r m × OnFace d a r × OnFace d b m

-- A chain of neighbours leads from the first face to this one.
abbrev pub IsReached : ShellRows → ℕ → Type 0
IsReached d face = LeadsTo (AreNeighbours d) 0 face
