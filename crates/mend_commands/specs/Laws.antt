-- What holds of mending by its definition.
use Rattle.std.specs.Prelude.{◌≡◌, ℕ, ◌≤◌, All, List, length}
use Rattle.iges_base.specs.declared.TheConstants.{FILE_LIMIT}
use Rattle.iges_params.specs.Contents.{Contents}
use Rattle.iges_params.specs.IsFile.{IsFile}
use Rattle.iges_params.specs.Limits.{FitsLimits}
use Rattle.iges_params.specs.Refusal.{IsOnly}
use Rattle.iges_write.specs.Text.{IsText}
use Rattle.solid_data.specs.declared.verdict.Failing.{Failing}
use Rattle.brep_walk.specs.SolidOf.{solid_of}
use Rattle.solid_geometry.specs.Known.{IsGeometryOf}
use Rattle.solid_mend.specs.Mended.{AreClosed}
use Rattle.shell_change.specs.declared.change.Change.{Change}
use Rattle.shell_change.specs.declared.geometry.Geometry.{Geometry}
use Rattle.shell_change.specs.Fits.{KeepsGeometry}
use Rattle.changed_file.specs.Staying.{OthersStayIn}
use Rattle.command_replies.specs.declared.answer.Answer.{Answer}
use Rattle.file_replies.specs.Written.{OfWritten}
use Rattle.named_once.specs.Once.{once}
use Rattle.solid_extract.specs.Extracted.{IsExtracted}
use Rattle.solid_verdict.specs.Closed.{IsClosed}
use Rattle.mend_commands.specs.Due.{FailsBy, IsMendedAs, IsOnce, OfMend}

-- No rule on shells fails, also where the solid names something twice and that is left out.
pub record FailsByNone (n : ℕ) (f : Contents) : Type 0 where
  pub here : (x : Failing) → ¬ FailsBy n f x
  pub again : (x y : Failing) → IsOnce n f x → ¬ FailsBy n (once f n) y

-- Then one answer is owed, and one text.
abbrev pub OneMendAnswer : Type 0
OneMendAnswer = (n : ℕ) (f : Contents) (a b : Answer) (t u : List ℕ) → FailsByNone n f → OfMend n f a t → OfMend n f b u → (a ≡ b) × (t ≡ u)

-- A closed solid is written as `extract` writes it, if that makes a file.
abbrev pub ClosedIsExtracted : Type 0
ClosedIsExtracted = (n : ℕ) (f g : Contents) (a : Answer) (t : List ℕ) → IsClosed f n → IsExtracted f n g → OfMend n f a t → OfWritten g a t

-- Some answer is owed.
abbrev pub SomeMendAnswer : Type 0
SomeMendAnswer = (n : ℕ) (f : Contents) → FitsLimits f → (a : Answer) × (t : List ℕ) × OfMend n f a t

-- For given changes the new file is one.
abbrev pub OneMended : Type 0
OneMended = (n : ℕ) (f g : Contents) (m : ℕ) (cs : List Change) (new other : Contents) → IsMendedAs n f g m cs new → IsMendedAs n f g m cs other → new ≡ other

-- The text of a mended file is exactly that file, in which the solid and each new one are closed.
abbrev pub MendedReadsBack : Type 0
MendedReadsBack = (n : ℕ) (f g : Contents) (m : ℕ) (cs : List Change) (new : Contents) (text : List ℕ) → IsMendedAs n f g m cs new → IsText new text
    → length text ≤ FILE_LIMIT → IsOnly (IsFile text) new × AreClosed new m (length g.entries)

-- In the new file each entry but the solid, its shells, their loops and removed faces is as it was extracted, and under the geometry of its records
-- each use that stays runs along its curve between its places, or along that of a seam and by moves that the change tells.
pub record GeometryStaysIn (g : Contents) (m : ℕ) (cs : List Change) (new : Contents) : Type 0 where
  pub others : OthersStayIn g (solid_of g m) cs new
  pub geometry : Geometry
  pub known : IsGeometryOf g (solid_of g m) geometry
  pub kept : All (KeepsGeometry (solid_of g m) geometry) cs

-- What is mended keeps its geometry.
abbrev pub GeometryStays : Type 0
GeometryStays = (n : ℕ) (f g : Contents) (m : ℕ) (cs : List Change) (new : Contents) → IsMendedAs n f g m cs new → GeometryStaysIn g m cs new
