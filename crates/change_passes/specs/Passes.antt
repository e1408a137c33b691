-- When a change of a shell passes.
use Rattle.std.specs.Prelude.{◌≡◌, ◌<◌, ℕ, zero, suc, List, length, Some, slice_get, ⊤}
use Rattle.solid_data.specs.Numbering.{IsNumberedSolid}
use Rattle.solid_data.specs.SolidData.{SolidData}
use Rattle.solid_data.specs.declared.solid.Shell.{Shell}
use Rattle.edge_uses.specs.Before.{IsApart}
use Rattle.shell_rules.specs.Closed.{IsClosedShell}
use Rattle.shell_change.specs.declared.change.Change.{Change}
use Rattle.shell_change.specs.declared.change.EdgeName.{EdgeName}
use Rattle.shell_change.specs.declared.change.VertexName.{VertexName}
use Rattle.shell_change.specs.declared.change.VertexName.TheVariants as vertex
use Rattle.shell_change.specs.Matching.{EachAt}
use Rattle.change_pieces.specs.Pieces.{ArePieces}

-- How many pieces stand before a piece in its solid: of the outer shell each piece becomes a solid of its own, of a void a void of the same solid.
abbrev pub pieces_before : ℕ → ℕ → ℕ
pieces_before zero piece = 0
pieces_before (suc void) piece = piece

-- an old vertex is in no shell before shell k
abbrev pub IsOldApart : SolidData → ℕ → VertexName → Type 0
IsOldApart s k (vertex.Old v) = IsApart s k v.0
IsOldApart s k (vertex.New i) = ⊤

-- Of the changed shell there are pieces. They are closed, and no vertex of them is one of an earlier shell.
pub record Passes (s : SolidData) (c : Change) : Type 0 where
  pub shell : Shell
  pub at : slice_get s.shells c.shell.0 ≡ Some shell
  pub pieces : SolidData
  pub vertices : List VertexName
  pub edges : List EdgeName
  pub numbered : IsNumberedSolid pieces
  pub some : 0 < length pieces.shells
  pub named : ArePieces s c shell.flag vertices edges pieces
  pub closed : EachAt (λ piece h. IsClosedShell pieces (pieces_before c.shell.0 piece) h) pieces.shells
  pub apart : EachAt (λ _ name. IsOldApart s c.shell.0 name) vertices
