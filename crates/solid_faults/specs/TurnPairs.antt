-- Private: for each row the row that it turns to.
use Rattle.std.specs.Prelude.{◌≡◌, ℕ, List, length, Some, slice_get}
use Rattle.edge_uses.specs.RowRelations.{Turns}
use Rattle.edge_uses.specs.ShellRows.{ShellRows}

-- at place r are r and the row that it turns to
pub record AreTurns (d : ShellRows) (pairs : List (ℕ × ℕ)) : Type 0 where
  pub each : length pairs ≡ length d.rows
  pub turns : (r : ℕ) (p : ℕ × ℕ) → slice_get pairs r ≡ Some p → (p.0 ≡ r) × Turns d p.0 p.1
