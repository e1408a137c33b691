-- Private: faces that were compared with those of their pieces, in order.
use Rattle.std.specs.Prelude.{◌≡◌, ℕ, Bool, List, length, filter, take, get_or, Option, Some, None, slice_get}
use Rattle.solid_data.specs.declared.solid.FaceUse.{FaceUse}
use Rattle.solid_data.specs.declared.solid.Shell.{Shell}
use Rattle.shell_change.specs.declared.change.EdgeName.{EdgeName}
use Rattle.shell_change.specs.declared.change.FaceNow.{FaceNow}
use Rattle.shell_change.specs.declared.change.VertexName.{VertexName}
use Rattle.shell_change.specs.Matching.{Matched}
use Rattle.change_pieces.specs.Pieces.{IsFace, is_of}

-- Of each piece, the first so many faces are those of these faces that are the piece's.
pub record AreGathered (vs : List VertexName) (es : List EdgeName) (shells : List Shell) (now : List FaceNow) (counts : List ℕ) : Type 0 where
  pub long : length counts ≡ length shells
  pub each : (piece : ℕ) (h : Shell) → slice_get shells piece ≡ Some h → Matched (IsFace vs es) (filter (is_of piece) now) (take (get_or counts piece 0) h.faces)

-- a face of a shell that may not be there
abbrev pub face_in : Option Shell → ℕ → Option FaceUse
face_in None place = None
face_in (Some h) place = slice_get h.faces place

-- the shell has this flag, and so many faces
abbrev pub HasAll : Bool → ℕ → Shell → Type 0
HasAll flag count h = (h.flag ≡ flag) × (length h.faces ≡ count)
