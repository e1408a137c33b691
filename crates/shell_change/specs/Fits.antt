-- What a change of a shell may be.
use Rattle.std.specs.Prelude.{◌≡◌, Bool, true, false, not, IsTrue, List, map, reverse, Option, Some, None, slice_get, ⊤}
use Rattle.solid_data.specs.SolidData.{SolidData}
use Rattle.solid_data.specs.declared.solid.FaceUse.{FaceUse}
use Rattle.solid_data.specs.declared.solid.Loop.{Loop}
use Rattle.solid_data.specs.declared.solid.LoopUse.{LoopUse}
use Rattle.solid_data.specs.declared.solid.LoopUse.TheVariants.{EdgeUse, VertexUse}
use Rattle.solid_data.specs.declared.solid.Shell.{Shell}
use Rattle.shell_change.specs.declared.change.Change.{Change}
use Rattle.shell_change.specs.declared.change.Fate.{Fate}
use Rattle.shell_change.specs.declared.change.Fate.TheVariants.{Removed, Kept}
use Rattle.shell_change.specs.declared.change.LoopNow.{LoopNow}
use Rattle.shell_change.specs.declared.geometry.Geometry.{Geometry}
use Rattle.shell_change.specs.Matching.{EachAt, Matched}
use Rattle.shell_change.specs.Moves.{MoveFits}
use Rattle.shell_change.specs.Seams.{SeamFits}
use Rattle.shell_change.specs.UseFits.{UseFits, NewEdgeFits}

-- a use of an edge with the other flag
abbrev pub opposite_use : LoopUse → LoopUse
opposite_use (EdgeUse e along) = EdgeUse e (not along)
opposite_use (VertexUse v) = VertexUse v

-- the uses of a loop that is run the other way
abbrev pub reversed_uses : List LoopUse → List LoopUse
reversed_uses uses = reverse (map opposite_use uses)

-- the uses of a loop that is reversed, or isn't
abbrev pub uses_before : List LoopUse → Bool → List LoopUse
uses_before uses true = reversed_uses uses
uses_before uses false = uses

-- A loop that reversing leaves as it is isn't reversed. After that, each use fits.
pub record LoopFits (s : SolidData) (g : Geometry) (c : Change) (old : Loop) (now : LoopNow) : Type 0 where
  pub reversed : IsTrue now.reversed → ¬ (reversed_uses old.uses ≡ old.uses)
  pub uses : Matched (UseFits s g c) (uses_before old.uses now.reversed) now.uses

-- Of a face that is kept each loop fits.
abbrev pub FaceFits : SolidData → Geometry → Change → FaceUse → Fate → Type 0
FaceFits s g c old Removed = ⊤
FaceFits s g c old (Kept now) = Matched (LoopFits s g c) old.loops now.loops

-- what becomes of the faces of a shell that is there
abbrev pub FacesFit : SolidData → Geometry → Change → Option Shell → Type 0
FacesFit s g c None = ⊥
FacesFit s g c (Some h) = Matched (FaceFits s g c) h.faces c.faces

-- What becomes of each face of the shell fits; and each new edge, each seam and each move does.
pub record KeepsGeometry (s : SolidData) (g : Geometry) (c : Change) : Type 0 where
  pub faces : FacesFit s g c (slice_get s.shells c.shell.0)
  pub edges : EachAt (λ _ n. NewEdgeFits s g c n) c.edges
  pub seams : EachAt (λ _ x. SeamFits s g x) c.seams
  pub moves : EachAt (MoveFits s g c) c.moves
