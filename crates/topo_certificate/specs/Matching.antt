-- When what a checker keeps is where the lines so far lead.
use Rattle.std.specs.Prelude.{◌≡◌, ℕ, ◌+◌, ◌-◌, Bool, List, length, Option, Some, None, slice_get}
use Rattle.solid_data.specs.SolidData.{SolidData}
use Rattle.cert_lines.specs.Line.{CertLine}
use Rattle.cert_lines.specs.declared.version.Version.{Version}
use Rattle.cert_text.specs.declared.fault.Illegal.{Illegal}
use Rattle.cert_state.specs.Progress.{Progress, progress_from_latest, rows_of_shell, loops_of_shell, NoneDue}
use Rattle.cert_state.specs.CheckState.{ShellCheckState, IsFresh}
use Rattle.cert_state.specs.Matching.{MatchesShell}

-- The shells that are not begun, the next one last.
pub record AreWaiting (v : Version) (s : SolidData) (shell : ℕ) (waiting : List ShellCheckState) : Type 0 where
  pub count : length waiting + shell ≡ length s.shells
  pub fresh : (i : ℕ) (k : ShellCheckState) → slice_get waiting i ≡ Some k
      → IsFresh v (rows_of_shell s (length s.shells - i)) (loops_of_shell s (length s.shells - i)) k

-- What a checker keeps: the version, the solid, the fault that it found, the number of the next line, whether END came, the number of the shell, what it keeps
-- of that shell, and of those not begun.
pub record CheckerState : Type 0 where
  pub version : Version
  pub solid : SolidData
  pub failed : Option Illegal
  pub number : ℕ
  pub ended : Bool
  pub shell : ℕ
  pub current : Option ShellCheckState
  pub waiting : List ShellCheckState

-- nothing is due where no shell is begun
abbrev pub MatchesCurrent : SolidData → Progress → Option ShellCheckState → Type 0
MatchesCurrent s at None = (at.shell ≡ 0) × NoneDue at.due
MatchesCurrent s at (Some k) = MatchesShell s at k

-- The checker stands after these lines, the latest first, which all fit and are numbered from this number on.
pub record IsAt (first : ℕ) (c : CheckerState) (lines : List CertLine) : Type 0 where
  pub legal : c.failed ≡ None
  pub number : c.number ≡ first + length lines
  pub ended : c.ended ≡ (progress_from_latest c.version c.solid lines).ended
  pub shell : c.shell ≡ (progress_from_latest c.version c.solid lines).shell
  pub current : MatchesCurrent c.solid (progress_from_latest c.version c.solid lines) c.current
  pub waiting : AreWaiting c.version c.solid c.shell c.waiting

-- The version and the solid stay the same.
abbrev pub IsOfSame : CheckerState → CheckerState → Type 0
IsOfSame old new = (new.version ≡ old.version) × (new.solid ≡ old.solid)
