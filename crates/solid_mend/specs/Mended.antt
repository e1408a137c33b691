-- A mended file.
use Rattle.std.specs.Prelude.{◌≡◌, ℕ, ◌+◌, ◌*◌, ◌≤◌, List, [], All, Contains, length, IsTrue}
use Rattle.solid_data.specs.SolidData.{SolidData}
use Rattle.iges_params.specs.Contents.{Contents}
use Rattle.iges_params.specs.Solids.{is_solid_at}
use Rattle.brep_walk.specs.SolidOf.{solid_of}
use Rattle.solid_verdict.specs.Closed.{IsClosed}
use Rattle.shell_change.specs.declared.change.Change.{Change}
use Rattle.shell_change.specs.declared.change.Remedy.{Remedy}
use Rattle.shell_change.specs.declared.geometry.Geometry.{Geometry}
use Rattle.change_fits.specs.Fits.{Fits}
use Rattle.tried_remedies.specs.Tried.{AreTried}
use Rattle.solid_geometry.specs.Known.{IsGeometryOf}
use Rattle.changed_file.specs.Changed.{changed}
use Rattle.solid_mend.specs.Failing.{OneEach}
use Rattle.solid_mend.specs.declared.mending.Mended.{Mended}
use Rattle.solid_mend.specs.declared.mending.Mending.{Mending}
use Rattle.solid_mend.specs.declared.mending.Mending.TheVariants as mending
use Rattle.solid_mend.specs.declared.shells.ShellRemedies.{ShellRemedies}

-- Solid n is closed, and so is each solid among the entries from this place on.
pub record AreClosed (f : Contents) (n from : ℕ) : Type 0 where
  pub solid : IsClosed f n
  pub new : (i : ℕ) → from ≤ i → IsTrue (is_solid_at f i) → IsClosed f (2 * i + 1)

abbrev pub shell_of_change : Change → ℕ
shell_of_change c = c.shell.0

-- The change fits, and needs no new face.
pub record IsWhole (s : SolidData) (g : Geometry) (c : Change) : Type 0 where
  pub fits : Fits s g c
  pub rims : c.rims ≡ []

-- The new file is f with these changes, one for each shell of solid n that fails: each fits under the geometry of f's records, and in the new file
-- n and each new solid are closed.
pub record IsMended (f : Contents) (n : ℕ) (cs : List Change) (new : Contents) : Type 0 where
  pub geometry : Geometry
  pub known : IsGeometryOf f (solid_of f n) geometry
  pub failing : OneEach shell_of_change (solid_of f n) cs
  pub whole : All (IsWhole (solid_of f n) geometry) cs
  pub is : new ≡ changed f (solid_of f n) cs
  pub closed : AreClosed new n (length f.entries)

-- ---- private: remedies of shells, and those that are taken

abbrev pub shell_of_remedies : ShellRemedies → ℕ
shell_of_remedies x = x.shell.0

abbrev pub AreTriedOf : SolidData → Geometry → ShellRemedies → Type 0
AreTriedOf s g x = AreTried s g x.shell x.remedies

-- the change of one of a shell's remedies
pub record IsTakenOf (x : ShellRemedies) (c : Change) : Type 0 where
  pub remedy : Remedy
  pub among : Contains x.remedies remedy
  pub is : c ≡ remedy.change
  pub rims : c.rims ≡ []

-- what was made of solid n of f with these changes of its shells, in which all is closed
pub record IsMadeWith (f : Contents) (s : SolidData) (n : ℕ) (cs : List Change) (m : Mended) : Type 0 where
  pub changes : m.changes ≡ cs
  pub is : m.file ≡ changed f s cs
  pub closed : AreClosed m.file n (length f.entries)

-- the remedies of the shells that fail, each tried under the geometry of the file's records
pub record AreRemediesOf (f : Contents) (s : SolidData) (xs : List ShellRemedies) : Type 0 where
  pub geometry : Geometry
  pub known : IsGeometryOf f s geometry
  pub failing : OneEach shell_of_remedies s xs
  pub tried : All (AreTriedOf s geometry) xs

-- what was mended is, where anything was
abbrev pub IsMendingOf : Contents → ℕ → Mending → Type 0
IsMendingOf f n (mending.Mended m) = IsMended f n m.changes m.file
IsMendingOf f n (mending.Unmended u) = Unit {0}
