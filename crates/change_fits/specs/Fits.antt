-- What a change of a shell may be.
use Rattle.solid_data.specs.SolidData.{SolidData}
use Rattle.shell_change.specs.declared.change.Change.{Change}
use Rattle.shell_change.specs.declared.geometry.Geometry.{Geometry}
use Rattle.shell_change.specs.Fits.{KeepsGeometry}
use Rattle.shell_change.specs.Pieces.{PiecesInOrder}
use Rattle.change_names.specs.Names.{NamesOwn}
use Rattle.change_fits.specs.NewNames.{NamesNew}

-- Old edges and vertices that a change names are the shell's, and each new one is named by a use.
pub record NamesFit (s : SolidData) (c : Change) : Type 0 where
  pub own : NamesOwn s c
  pub new : NamesNew c

-- It keeps geometry, its pieces are in order, and what it names fits.
pub record Fits (s : SolidData) (g : Geometry) (c : Change) : Type 0 where
  pub geometry : KeepsGeometry s g c
  pub pieces : PiecesInOrder c.faces
  pub names : NamesFit s c
