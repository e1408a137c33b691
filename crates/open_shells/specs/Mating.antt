-- The mates of an open shell's rows.
use Rattle.std.specs.Prelude.{◌≡◌, ℕ, Bool, true, false, List, length, Option, Some, None, slice_get}
use Rattle.std.specs.List.{AllByRecursion}
use Rattle.solid_data.specs.declared.solid.RowId.{RowId}
use Rattle.edge_uses.specs.ShellRows.{ShellRows, AreRows, EndsMeet}
use Rattle.edge_uses.specs.RowRelations.{AreMates}
use Rattle.edge_uses.specs.Mates.{RunsOn}
use Rattle.open_certificate.specs.Sound.{row_total, IsBorder, IsOnce}
use Rattle.open_certificate.specs.declared.parts.OpenEdge.{OpenEdge}
use Rattle.open_certificate.specs.declared.parts.OpenEdge.TheVariants.{One, Two}

-- the only row of the edge, or a row along it and a row against it
abbrev pub AreRowsOf : ShellRows → ℕ → OpenEdge → Type 0
AreRowsOf d e (One r) = (way : Bool) × RunsOn d e way r.0 × (row_total d e ≡ 1)
AreRowsOf d e (Two a b) = RunsOn d e true a.0 × RunsOn d e false b.0

-- the mate of a row, or none where it is a border row
abbrev pub IsMateOf : ShellRows → ℕ → Option RowId → Type 0
IsMateOf d r None = IsBorder d r
IsMateOf d r (Some m) = AreMates d r m.0

-- rows of which each ends where the next starts, and each edge is used once or by mates
pub record AreOnce (d : ShellRows) : Type 0 where
  pub rows : AreRows d
  pub meet : EndsMeet d
  pub once : AllByRecursion (IsOnce d) d.edges

pub record HaveOpenMates (d : ShellRows) (mates : List (Option RowId)) : Type 0 where
  pub whole : AreOnce d
  pub each : length mates ≡ length d.rows
  pub mate : (r : ℕ) (o : Option RowId) → slice_get mates r ≡ Some o → IsMateOf d r o
