-- Lists of flags that fit, and what other flags for the faces don't change.
use Rattle.std.specs.Prelude.{◌≡◌, ℕ, Bool, List, length, Some, slice_get}
use Rattle.std.specs.List.{AllByRecursion}
use Rattle.solid_data.specs.SolidData.{SolidData, PlacedLoop, placed_loops}
use Rattle.solid_data.specs.declared.solid.Shell.{Shell}
use Rattle.edge_uses.specs.Before.{IsApart}
use Rattle.edge_uses.specs.Joins.{IsJoined}
use Rattle.edge_uses.specs.Around.{IsLinked}
use Rattle.edge_uses.specs.ShellRows.{shell_rows}
use Rattle.orient_certificate.specs.Flags.{FlagsFit}

-- There is a list for each shell, and it fits.
pub record AllFlagsFit (s : SolidData) (flags : List (List Bool)) : Type 0 where
  pub each : length flags ≡ length s.shells
  pub fit : (k : ℕ) (x : List Bool) → slice_get flags k ≡ Some x → FlagsFit s k x

-- JOIN, LINK and APART hold of each shell
pub record JoinsAndLinks (s : SolidData) (k : ℕ) (shell : Shell) : Type 0 where
  pub joined : AllByRecursion (λ (p : PlacedLoop). IsJoined s p.loop) (placed_loops shell)
  pub linked : AllByRecursion (IsLinked (shell_rows s shell)) (shell_rows s shell).vertices
  pub apart : AllByRecursion (IsApart s k) (shell_rows s shell).vertices
