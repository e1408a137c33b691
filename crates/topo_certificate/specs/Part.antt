-- Private: what a checker says of a line of a part of a book, and of the line at the start of a text.
use Rattle.std.specs.Prelude.{◌≡◌, ℕ, ◌+◌, List, ◌∷◌, length}
use Rattle.cert_lines.specs.Line.{CertLine, solid, IsLine, line_limit}
use Rattle.cert_lines.specs.Cutting.{EndsFirst}
use Rattle.cert_state.specs.Progress.{progress_from_latest, FitsLine}
use Rattle.topo_certificate.specs.Legal.{BeginsNext}
use Rattle.topo_certificate.specs.Matching.{CheckerState, IsAt}
use Rattle.topo_certificate.specs.declared.line_checker.PartLine.{PartLine}
use Rattle.topo_certificate.specs.declared.line_checker.PartLine.TheVariants.{More, Next}

-- After these lines, numbered from this number on, the bytes are a line that fits, or one that begins the next part.
abbrev pub IsPartLine : CheckerState → CheckerState → ℕ → List CertLine → List ℕ → PartLine → Type 0
IsPartLine old new first lines bytes More =
    (l : CertLine) × IsLine (line_limit old.solid) bytes l × FitsLine old.solid (progress_from_latest old.version old.solid lines) l × IsAt first new (l ∷ lines)
IsPartLine old new first lines bytes (Next named number) =
    IsLine (line_limit old.solid) bytes (solid named.0) × BeginsNext old.solid (progress_from_latest old.version old.solid lines) named.0
    × (number ≡ first + length lines + 1) × (new ≡ old)

-- The text begins with a line that an LF ends, and this follows it. Whatever lines came, the line fits after them, and the checker has advanced past it.
pub record TakesNextLine (old new : CheckerState) (text after : List ℕ) : Type 0 where
  pub line : List ℕ
  pub cut : EndsFirst text line after
  pub taken : (first : ℕ) (lines : List CertLine) → IsAt first old lines → (l : CertLine) × IsLine (line_limit old.solid) line l
      × FitsLine old.solid (progress_from_latest old.version old.solid lines) l × IsAt first new (l ∷ lines)
