-- The pieces of a change, by the order of their first faces.
use Rattle.std.specs.Prelude.{◌≡◌, ◌<◌, ◌+◌, ℕ, ◌==◌, nat_lt, List, Option, Some, None, slice_get, ⊤, if◌then◌else◌}
use Rattle.shell_change.specs.declared.change.FaceNow.{FaceNow}
use Rattle.shell_change.specs.declared.change.Fate.{Fate}
use Rattle.shell_change.specs.declared.change.Fate.TheVariants.{Removed, Kept}
use Rattle.shell_change.specs.Matching.{EachAt}

-- A face before place i is of this piece.
pub record HasBegun (fates : List Fate) (i piece : ℕ) : Type 0 where
  pub place : ℕ
  pub face : FaceNow
  pub before : place < i
  pub kept : slice_get fates place ≡ Some (Kept face)
  pub of_piece : face.piece ≡ piece

-- Where a face is of a piece, each piece of a lesser number has a face before it.
abbrev pub BeginsInOrder : List Fate → ℕ → Fate → Type 0
BeginsInOrder fates i Removed = ⊤
BeginsInOrder fates i (Kept face) = (piece : ℕ) → piece < face.piece → HasBegun fates i piece

abbrev pub PiecesInOrder : List Fate → Type 0
PiecesInOrder fates = EachAt (BeginsInOrder fates) fates

-- the piece of a face that is kept
abbrev pub piece_of : Fate → Option ℕ
piece_of Removed = None
piece_of (Kept face) = Some face.piece

-- how many pieces have begun with a face of this piece, if so many had before; None where one of a lesser number hasn't
abbrev pub begun_with : Option ℕ → ℕ → Option ℕ
begun_with None begun = Some begun
begun_with (Some piece) begun = if nat_lt begun piece then None else (if piece == begun then Some (begun + 1) else Some begun)
