-- How rows lie to one another and to edges, vertices and faces.
use Rattle.std.specs.Prelude.{◌≡◌, ℕ, ◌==◌, ◌&&◌, Bool, true, false, not, count_by, Some, slice_get}
use Rattle.solid_data.specs.declared.solid.LoopAt.{LoopAt}
use Rattle.edge_uses.specs.declared.row.Row.{Row}
use Rattle.edge_uses.specs.ShellRows.{ShellRows}

-- how many rows have the edge in this direction
abbrev pub row_count : ShellRows → ℕ → Bool → ℕ
row_count d e true = count_by (λ (r : Row). (r.edge.0 == e) && r.along) d.rows
row_count d e false = count_by (λ (r : Row). (r.edge.0 == e) && not r.along) d.rows

-- Two rows have the edge, one along it and one against it.
abbrev pub IsPaired : ShellRows → ℕ → Type 0
IsPaired d e = (row_count d e true ≡ 1) × (row_count d e false ≡ 1)

-- r and m have one edge, in opposite directions. Where the edge is paired, each row has one mate.
pub record AreMates (d : ShellRows) (r m : ℕ) : Type 0 where
  pub row : Row
  pub mate : Row
  pub at_r : slice_get d.rows r ≡ Some row
  pub at_m : slice_get d.rows m ≡ Some mate
  pub one_edge : row.edge ≡ mate.edge
  pub opposite : row.along ≡ not mate.along

abbrev pub Follows : ShellRows → ℕ → ℕ → Type 0
Follows d r s = slice_get d.follows r ≡ Some s

-- s follows the mate of r
abbrev pub Turns : ShellRows → ℕ → ℕ → Type 0
Turns d r s = (m : ℕ) × AreMates d r m × Follows d m s

abbrev pub StartsAt : ShellRows → ℕ → ℕ → Type 0
StartsAt d v r = (row : Row) × (slice_get d.rows r ≡ Some row) × (row.from.0 ≡ v)

abbrev pub OnFace : ShellRows → ℕ → ℕ → Type 0
OnFace d face r = (row : Row) × (slice_get d.rows r ≡ Some row) × (row.at.face.0 ≡ face)

-- how many loops without an edge lie at the vertex
abbrev pub point_count : ShellRows → ℕ → ℕ
point_count d v = count_by (λ (p : LoopAt × ℕ). p.1 == v) d.points
