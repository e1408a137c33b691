-- When what is kept of a shell is where the lines so far lead.
use Rattle.std.specs.Prelude.{◌≡◌, ℕ, ◌<◌, Bool, true, List, ◌∷◌, ◌++◌}
use Rattle.std.specs.Bool.{MatchBool}
use Rattle.solid_data.specs.SolidData.{SolidData}
use Rattle.cert_lines.specs.Line.{CertLine, IsLine}
use Rattle.cert_lines.specs.Parsed.{IsRowLine}
use Rattle.cert_lines.specs.declared.version.Version.{Version}
use Rattle.cert_state.specs.Progress.{Progress, progress_from_latest, rows_of_shell, loops_of_shell, FitsOpen}
use Rattle.cert_state.specs.CheckState.{ShellCheckState, HoldsMates, HoldsFaces}

-- what is kept of the shell at hand is its progress
pub record MatchesShell (s : SolidData) (at : Progress) (k : ShellCheckState) : Type 0 where
  pub begun : 0 < at.shell
  pub rows : k.rows ≡ rows_of_shell s at.shell
  pub loops : k.loops ≡ loops_of_shell s at.shell
  pub due : k.due ≡ at.due
  pub last_edge : k.last_edge ≡ at.last_edge
  pub last_vertex : k.last_vertex ≡ at.last_vertex
  pub mates : HoldsMates k.mates at.mates
  pub reached : HoldsFaces k.reached at.reached

-- After any lines with whose progress the state agrees, the line is taken exactly where it fits, and then the state agrees with the progress after the line.
abbrev pub Takes : ShellCheckState → ShellCheckState → CertLine → Bool → Type 0
Takes old new line taken =
    (v : Version) (s : SolidData) (lines : List CertLine) → MatchesShell s (progress_from_latest v s lines) old →
    MatchBool taken (FitsOpen s (progress_from_latest v s lines) line × MatchesShell s (progress_from_latest v s (line ∷ lines)) new)
    (¬ FitsOpen s (progress_from_latest v s lines) line)

-- The text begins with a line after a SHELL line, of at most so many bytes, which is taken; this follows it.
pub record TakesNext (old new : ShellCheckState) (limit : ℕ) (text after : List ℕ) : Type 0 where
  pub line : CertLine
  pub kind : IsRowLine line
  pub bytes : List ℕ
  pub is : IsLine limit bytes line
  pub whole : text ≡ bytes ++ after
  pub takes : Takes old new line true
