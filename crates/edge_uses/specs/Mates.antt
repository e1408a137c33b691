-- Rows that are paired.
use Rattle.std.specs.Prelude.{◌≡◌, ◌<◌, ℕ, Bool, List, length, Some, slice_get, ⊤}
use Rattle.std.specs.List.{AllByRecursion}
use Rattle.solid_data.specs.Obligations.{FirstNot}
use Rattle.solid_data.specs.declared.solid.EdgeId.{EdgeId}
use Rattle.edge_uses.specs.declared.row.Row.{Row}
use Rattle.edge_uses.specs.ShellRows.{ShellRows, EndsMeet, AreRows}
use Rattle.edge_uses.specs.RowRelations.{IsPaired, AreMates, Turns, StartsAt}

-- rows of which each ends where the next starts, and each edge is paired
pub record ArePaired (d : ShellRows) : Type 0 where
  pub rows : AreRows d
  pub meet : EndsMeet d
  pub paired : AllByRecursion (IsPaired d) d.edges

-- the mate of each row
pub record HaveMates (d : ShellRows) (mates : List ℕ) : Type 0 where
  pub whole : ArePaired d
  pub each : length mates ≡ length d.rows
  pub mate : (r m : ℕ) → slice_get mates r ≡ Some m → AreMates d r m

-- Mates are an involution: each row has one mate, and is the mate of it.
pub record AreInvolution (d : ShellRows) : Type 0 where
  pub each : (r : ℕ) (row : Row) → slice_get d.rows r ≡ Some row → (m : ℕ) × AreMates d r m
  pub one : (r m k : ℕ) → AreMates d r m → AreMates d r k → m ≡ k
  pub back : (r m : ℕ) → AreMates d r m → AreMates d m r

-- A turn stays at its vertex, and turning permutes the rows that start there.
pub record TurnsPermute (d : ShellRows) : Type 0 where
  pub stays : (v r t : ℕ) → StartsAt d v r → Turns d r t → StartsAt d v t
  pub each : (v r : ℕ) → StartsAt d v r → (t : ℕ) × Turns d r t
  pub one : (r s t : ℕ) → Turns d r s → Turns d r t → s ≡ t
  pub apart : (q r t : ℕ) → Turns d q t → Turns d r t → q ≡ r
  pub onto : (v t : ℕ) → StartsAt d v t → (r : ℕ) × StartsAt d v r × Turns d r t

-- the row has the edge, in this direction
pub record RunsOn (d : ShellRows) (e : ℕ) (way : Bool) (r : ℕ) : Type 0 where
  pub row : Row
  pub at : slice_get d.rows r ≡ Some row
  pub edge : row.edge.0 ≡ e
  pub along : row.along ≡ way
