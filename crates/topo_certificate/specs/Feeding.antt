-- A checker that is given lines, and the text that it was fed.
use Rattle.std.specs.Prelude.{◌≡◌, ℕ, List, ◌++◌, map, take, reverse, Option, None, IsTrue, MatchOption}
use Rattle.iges_base.specs.Ended.{ended, IsBegun}
use Rattle.iges_base.specs.InLine.{is_in_line}
use Rattle.solid_data.specs.SolidData.{SolidData}
use Rattle.cert_lines.specs.Line.{CertLine, line_limit}
use Rattle.cert_lines.specs.declared.version.Version.{Version}
use Rattle.cert_text.specs.declared.fault.Illegal.{Illegal}
use Rattle.cert_state.specs.Progress.{Progress, FitsLine}
use Rattle.topo_certificate.specs.Legal.{AreFitting, HasFirstBad, FitsPart}
use Rattle.topo_certificate.specs.Matching.{CheckerState, IsAt}

-- what it keeps: what it knows from whole lines, the bytes of an unfinished line, and the fault that was found
pub record FedState : Type 0 where
  pub checker : CheckerState
  pub kept : List ℕ
  pub failed : Option Illegal

-- the bytes that are kept stand for this rest of a line
abbrev pub IsKeptOf : SolidData → List ℕ → List ℕ → Type 0
IsKeptOf s kept rest = (kept ≡ take (line_limit s) rest) × IsTrue (is_in_line rest)

-- The checker, of this version and solid, has found no fault. It has advanced past these lines, in the order of the certificate and numbered from this number
-- on, and of this rest of a line it keeps the first bytes.
pub record StandsAfter (v : Version) (s : SolidData) (first : ℕ) (read : List CertLine) (rest : List ℕ) (c : FedState) : Type 0 where
  pub version : c.checker.version ≡ v
  pub solid : c.checker.solid ≡ s
  pub legal : c.failed ≡ None
  pub at : IsAt first c.checker (reverse read)
  pub kept : IsKeptOf s c.kept rest

-- Of lines of which these may come, the lines fit and the checker has advanced past them, or it has found the first bad one among them: it is the first
-- whatever lines follow.
abbrev pub HasJudged : Version → SolidData → (Progress → CertLine → Type 0) → ℕ → List (List ℕ) → List ℕ → FedState → Type 0
HasJudged v s Fits first lines rest c = MatchOption c.failed
    ((read : List CertLine) × AreFitting v s lines read × StandsAfter v s first read rest c)
    (λ bad. (more : List (List ℕ)) → HasFirstBad v s Fits first (lines ++ more) bad)

-- The checker was fed this text, whose lines are numbered from this number on, and has judged those that have ended.
pub record IsFedLines (v : Version) (s : SolidData) (Fits : Progress → CertLine → Type 0) (first : ℕ) (text : List ℕ) (c : FedState) : Type 0 where
  pub version : c.checker.version ≡ v
  pub solid : c.checker.solid ≡ s
  pub pieces : List (List ℕ)
  pub rest : List ℕ
  pub begun : IsBegun text pieces rest
  pub judged : HasJudged v s Fits first (map ended pieces) rest c

-- the text is of a certificate's lines
abbrev pub IsFed : Version → SolidData → ℕ → List ℕ → FedState → Type 0
IsFed v s first text c = IsFedLines v s (FitsLine s) first text c

-- The text is of the lines of a part of a book, where the line that begins the next part is not bad.
abbrev pub IsFedPart : Version → SolidData → ℕ → List ℕ → FedState → Type 0
IsFedPart v s first text c = IsFedLines v s (FitsPart s) first text c

-- Whatever text the checker was fed before, now it was fed that text and the piece but for what is left of it.
abbrev pub IsFedUpTo : (Version → SolidData → ℕ → List ℕ → FedState → Type 0) → FedState → List ℕ → FedState → List ℕ → Type 0
IsFedUpTo Fed old piece new left = (v : Version) (s : SolidData) (first : ℕ) (text : List ℕ) → Fed v s first text old
    → (fed : List ℕ) × (text ++ piece ≡ fed ++ left) × Fed v s first fed new
