-- Private: pieces before they are a solid.
use Rattle.std.specs.Prelude.{◌≡◌, ◌<◌, Bool, List, length}
use Rattle.solid_data.specs.SolidData.{SolidData}
use Rattle.solid_data.specs.declared.solid.Edge.{Edge}
use Rattle.solid_data.specs.declared.solid.Shell.{Shell}
use Rattle.shell_change.specs.declared.change.Change.{Change}
use Rattle.shell_change.specs.declared.change.EdgeName.{EdgeName}
use Rattle.shell_change.specs.declared.change.Rim.{Rim}
use Rattle.shell_change.specs.declared.change.VertexName.{VertexName}
use Rattle.shell_change.specs.Matching.{EachAt, Matched}
use Rattle.change_pieces.specs.Names.{StandOnce, ends_named, HasEnds}
use Rattle.change_pieces.specs.Pieces.{IsPiece, faces_of, piece_count}

pub record AreNamed (s : SolidData) (c : Change) (flag : Bool) (vs : List VertexName) (es : List EdgeName) (shells : List Shell) (edges : List Edge)
    : Type 0 where
  pub vertices_once : StandOnce vs
  pub edges_once : StandOnce es
  pub ends : Matched (λ name e. HasEnds vs (ends_named s c name) e) es edges
  pub count : length shells ≡ piece_count c
  pub rims : EachAt (λ _ (rim : Rim). rim.piece < piece_count c) c.rims
  pub each : EachAt (λ piece h. IsPiece vs es flag (faces_of flag c piece) h) shells
