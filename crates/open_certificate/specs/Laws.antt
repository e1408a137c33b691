-- What accepted certificates of open shells say.
use Rattle.std.specs.Prelude.{◌≡◌, ℕ, ◌-◌, ◌==◌, ◌↔◌, List, map, filter_map, flat_map, count_by, Option, Some, None}
use Rattle.std.specs.List.{AllByRecursion, AllZip}
use Rattle.solid_data.specs.Numbering.{IsNumberedSolid}
use Rattle.solid_data.specs.SolidData.{SolidData}
use Rattle.solid_data.specs.declared.solid.Shell.{Shell}
use Rattle.shell_rules.specs.Closed.{IsClosedShell}
use Rattle.edge_uses.specs.ShellRows.{ShellRows, shell_rows}
use Rattle.open_certificate.specs.Sound.{IsBorder, IsBorderCycleOf, IsSoundShell}
use Rattle.open_certificate.specs.Line.{OpenLine, border, IsSpelled}
use Rattle.open_certificate.specs.Progress.{shell_of}
use Rattle.open_certificate.specs.Legal.{IsOpenLegal}
use Rattle.open_certificate.specs.Obligations.{open_obligations, AllHold}
use Rattle.open_certificate.specs.Legal.{IsOpenShell, IsOpenAccepted, AllJoin}

-- What has an accepted certificate is sound.
abbrev pub AcceptedIsSound : Type 0
AcceptedIsSound = (s : SolidData) (certificate : List ℕ) → IsNumberedSolid s → IsOpenShell s → IsOpenAccepted s certificate → AllHold (open_obligations s)

-- A solid that is one open shell is sound exactly where some certificate is accepted for it.
abbrev pub SoundExactlyWhereAccepted : Type 0
SoundExactlyWhereAccepted = (s : SolidData) → IsNumberedSolid s → IsOpenShell s
    → AllHold (open_obligations s) ↔ ((certificate : List ℕ) × IsOpenAccepted s certificate)

-- the rows of a border line, from 0
abbrev pub cycle_in : OpenLine → Option (List ℕ)
cycle_in (border rs) = Some (map (λ r. r - 1) rs)
cycle_in _ = None

abbrev pub rows_in : List ℕ → List ℕ
rows_in rs = rs

-- They are cycles of border rows, and hold each border row once.
pub record AreAllBorders (d : ShellRows) (cycles : List (List ℕ)) : Type 0 where
  pub each : AllByRecursion (IsBorderCycleOf d) cycles
  pub once : (r : ℕ) → IsBorder d r → count_by (λ x. r == x) (flat_map rows_in cycles) ≡ 1

-- The border lines of legal lines hold each border row once.
abbrev pub BordersAreCycles : Type 0
BordersAreCycles = (s : SolidData) (texts : List (List ℕ)) (lines : List OpenLine) → IsNumberedSolid s → IsOpenShell s → AllJoin s → IsOpenLegal s texts
    → AllZip IsSpelled texts lines
    → AreAllBorders (shell_of s) (filter_map cycle_in lines)

-- A closed shell of a solid is sound as an open one, and has no border row.
abbrev pub ClosedIsSound : Type 0
ClosedIsSound = (s : SolidData) (k : ℕ) (shell : Shell) → IsClosedShell s k shell → IsSoundShell s shell × ((r : ℕ) → ¬ IsBorder (shell_rows s shell) r)
