-- The two rows of an edge, and the faces that they join.
use Rattle.std.specs.Prelude.{◌≡◌, ◌≢◌, ℕ, ◌==◌, count_by, slice_get, Some}
use Rattle.std.specs.List.{AllByRecursion}
use Rattle.solid_data.specs.Chain.{LeadsTo}
use Rattle.solid_data.specs.Ring.{numbers_from}
use Rattle.edge_uses.specs.declared.row.Row.{Row}
use Rattle.edge_uses.specs.ShellRows.{ShellRows}
use Rattle.edge_uses.specs.RowRelations.{OnFace}

-- COUNT: exactly two rows have the edge.
abbrev pub HasTwoRows : ShellRows → ℕ → Type 0
HasTwoRows d e = count_by (λ (r : Row). r.edge.0 == e) d.rows ≡ 2

-- of each edge that occurs in the shell
abbrev pub AllHaveTwoRows : ShellRows → Type 0
AllHaveTwoRows d = AllByRecursion (HasTwoRows d) d.edges

-- m is the other row with the edge of r, which exactly two rows have.
pub record ArePartners (d : ShellRows) (r m : ℕ) : Type 0 where
  pub row : Row
  pub partner : Row
  pub at_r : slice_get d.rows r ≡ Some row
  pub at_m : slice_get d.rows m ≡ Some partner
  pub one_edge : row.edge ≡ partner.edge
  pub apart : r ≢ m
  pub two : HasTwoRows d row.edge.0

-- face a holds a row whose partner face b holds
abbrev pub Adjoin : ShellRows → ℕ → ℕ → Type 0
Adjoin d a b = (r m : ℕ) × ArePartners d r m × OnFace d a r × OnFace d b m

-- REACH: a chain of such faces leads from the first face to this one.
abbrev pub IsReached : ShellRows → ℕ → Type 0
IsReached d face = LeadsTo (Adjoin d) 0 face

-- to each face of the shell
abbrev pub AllReached : ShellRows → Type 0
AllReached d = AllByRecursion (IsReached d) (numbers_from 0 d.face_count)
