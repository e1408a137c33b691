-- What a checker is about.
use Rattle.std.specs.Prelude.{ℕ}
use Rattle.solid_data.specs.SolidData.{SolidData}

-- a solid and the number of one of its shells
pub record ShellOf : Type 0 where
  pub solid : SolidData
  pub shell : ℕ
