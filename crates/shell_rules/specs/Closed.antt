-- What a closed shell keeps, and a closed solid.
use Rattle.std.specs.Prelude.{ℕ, length}
use Rattle.std.specs.List.{AllByRecursion, enumerate_from}
use Rattle.solid_data.specs.Ring.{numbers_from}
use Rattle.solid_data.specs.SolidData.{SolidData, PlacedLoop, placed_loops}
use Rattle.solid_data.specs.declared.solid.Shell.{Shell}
use Rattle.edge_uses.specs.ShellRows.{shell_rows}
use Rattle.edge_uses.specs.Joins.{IsJoined}
use Rattle.edge_uses.specs.RowRelations.{IsPaired}
use Rattle.edge_uses.specs.Around.{IsReached, IsLinked}
use Rattle.edge_uses.specs.Before.{IsApart}

-- Shell k is closed: its loops join, its edges are paired, its faces reached, its vertices linked, and none of these is in a shell before.
pub record IsClosedShell (s : SolidData) (k : ℕ) (shell : Shell) : Type 0 where
  pub joined : AllByRecursion (λ (p : PlacedLoop). IsJoined s p.loop) (placed_loops shell)
  pub paired : AllByRecursion (IsPaired (shell_rows s shell)) (shell_rows s shell).edges
  pub reached : AllByRecursion (IsReached (shell_rows s shell)) (numbers_from 0 (length shell.faces))
  pub linked : AllByRecursion (IsLinked (shell_rows s shell)) (shell_rows s shell).vertices
  pub apart : AllByRecursion (IsApart s k) (shell_rows s shell).vertices

-- each shell is
abbrev pub IsClosedSolid : SolidData → Type 0
IsClosedSolid s = AllByRecursion (λ (h : ℕ × Shell). IsClosedShell s h.0 h.1) (enumerate_from 0 s.shells)
