-- Remedies of a shell that were judged.
use Rattle.std.specs.Prelude.{◌≡◌, List, All}
use Rattle.solid_data.specs.SolidData.{SolidData}
use Rattle.solid_data.specs.declared.solid.ShellAt.{ShellAt}
use Rattle.shell_change.specs.declared.change.Remedy.{Remedy}
use Rattle.shell_change.specs.declared.geometry.Geometry.{Geometry}
use Rattle.change_fits.specs.Fits.{Fits}
use Rattle.change_passes.specs.Passes.{Passes}

-- Its change is one of this shell, fits, and passes.
pub record IsTried (s : SolidData) (g : Geometry) (k : ShellAt) (r : Remedy) : Type 0 where
  pub of_shell : r.change.shell ≡ k
  pub fits : Fits s g r.change
  pub passes : Passes s r.change

abbrev pub AreTried : SolidData → Geometry → ShellAt → List Remedy → Type 0
AreTried s g k remedies = All (IsTried s g k) remedies
