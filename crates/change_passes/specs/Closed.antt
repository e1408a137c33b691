-- Private: pieces that are closed.
use Rattle.std.specs.Prelude.{◌≡◌, ◌<◌, List, length, Some, slice_get}
use Rattle.solid_data.specs.Numbering.{IsNumberedSolid}
use Rattle.solid_data.specs.SolidData.{SolidData}
use Rattle.solid_data.specs.declared.solid.Shell.{Shell}
use Rattle.shell_rules.specs.Closed.{IsClosedShell}
use Rattle.shell_change.specs.declared.change.Change.{Change}
use Rattle.shell_change.specs.declared.change.EdgeName.{EdgeName}
use Rattle.shell_change.specs.declared.change.VertexName.{VertexName}
use Rattle.shell_change.specs.Matching.{EachAt}
use Rattle.change_pieces.specs.Pieces.{ArePieces}
use Rattle.change_passes.specs.Passes.{pieces_before}

-- Of the changed shell there are pieces, with these vertices, and they are closed.
pub record HaveClosed (s : SolidData) (c : Change) (vs : List VertexName) : Type 0 where
  pub shell : Shell
  pub at : slice_get s.shells c.shell.0 ≡ Some shell
  pub pieces : SolidData
  pub edge_names : List EdgeName
  pub numbered : IsNumberedSolid pieces
  pub some : 0 < length pieces.shells
  pub named : ArePieces s c shell.flag vs edge_names pieces
  pub closed : EachAt (λ piece h. IsClosedShell pieces (pieces_before c.shell.0 piece) h) pieces.shells
