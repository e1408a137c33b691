-- When a solid of a file is closed, and its verdict.
use Rattle.std.specs.Prelude.{ℕ, List, ◌++◌, ◌↔◌}
use Rattle.iges_params.specs.Contents.{Contents}
use Rattle.brep_walk.specs.Places.{places}
use Rattle.brep_walk.specs.SolidOf.{solid_of}
use Rattle.solid_data.specs.Obligations.{Obligation, AllHold, IsVerdict}
use Rattle.solid_data.specs.declared.verdict.Verdict.{Verdict}
use Rattle.shell_rules.specs.Closed.{IsClosedSolid}
use Rattle.shell_rules.specs.ShellObligations.{solid_obligations}

-- Solid n of the file is closed: its places hold, and each of its shells is closed.
pub record IsClosed (f : Contents) (n : ℕ) : Type 0 where
  pub placed : AllHold (places f n)
  pub closed : IsClosedSolid (solid_of f n)

-- all obligations of solid n: its places, and then its shells
unfoldable pub obligations : Contents → ℕ → List Obligation
obligations f n = places f n ++ solid_obligations (solid_of f n)

-- the verdict on solid n
abbrev pub IsVerdictOn : Contents → ℕ → Verdict → Type 0
IsVerdictOn f n verdict = IsVerdict (obligations f n) verdict

-- The one list of obligations says what is closed.
abbrev pub ClosedIsAllHold : Type 0
ClosedIsAllHold = (f : Contents) (n : ℕ) → IsClosed f n ↔ AllHold (obligations f n)
