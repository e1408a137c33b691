-- Private: what a checker keeps whatever the lines are, so that the line's number doesn't overflow.
use Rattle.std.specs.Prelude.{◌≡◌, ℕ, ◌+◌, ◌*◌, ◌<◌, ◌≤◌, ◌^◌, Bool, false, List, ◌∷◌, length, Option, Some, None}
use Rattle.std.specs.Bool.{MatchBool}
use Rattle.cert_lines.specs.Line.{CertLine, line_limit}
use Rattle.cert_state.specs.Progress.{progress_from_latest, FitsLine}
use Rattle.cert_state.specs.CheckState.{ShellCheckState, lines_due}
use Rattle.topo_certificate.specs.Matching.{CheckerState, IsAt}
use Rattle.solid_data.specs.declared.TheConstants.{PART_LIMIT}

-- how many lines of the shell at hand are due
abbrev pub dues_of : Option ShellCheckState → ℕ
dues_of None = 0
dues_of (Some k) = lines_due k.due

-- A shell has few lines, there are few shells, and the first line has no great number.
pub record HasRoom (limit : ℕ) (c : CheckerState) : Type 0 where
  pub limit_is : limit ≡ line_limit c.solid
  pub few_shells : c.shell + length c.waiting < PART_LIMIT
  pub few : c.number + dues_of c.current ≤ 2 ^ 32 + 1 + c.shell * 2 ^ 34
  pub unended : c.ended ≡ false → c.number + dues_of c.current ≤ 2 ^ 32 + c.shell * 2 ^ 34

-- After any lines that the checker stands after, the line is taken exactly where it fits, and then the checker stands after it too.
abbrev pub TakesLine : CheckerState → CheckerState → CertLine → Bool → Type 0
TakesLine old new line taken =
    (first : ℕ) (lines : List CertLine) → IsAt first old lines →
    MatchBool taken (FitsLine old.solid (progress_from_latest old.version old.solid lines) line × IsAt first new (line ∷ lines))
    (¬ FitsLine old.solid (progress_from_latest old.version old.solid lines) line)
