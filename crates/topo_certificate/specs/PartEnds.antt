-- Where a part of a book ends that comes in pieces.
use Rattle.std.specs.Prelude.{◌≡◌, ℕ, ◌+◌, ◌≤◌, List, [], ◌∷◌, ◌++◌, length, take}
use Rattle.solid_data.specs.SolidData.{SolidData}
use Rattle.cert_lines.specs.Line.{CertLine, solid as solid_line, cut_lines, IsLine, line_limit}
use Rattle.cert_lines.specs.declared.version.Version.{Version}
use Rattle.cert_state.specs.Progress.{progress_after}
use Rattle.topo_certificate.specs.Legal.{AreFitting, BeginsNext}
use Rattle.topo_certificate.specs.Feeding.{FedState, StandsAfter, IsFedPart}
use Rattle.topo_certificate.specs.declared.line_checker.PartLine.{PartLine}
use Rattle.topo_certificate.specs.declared.line_checker.PartLine.TheVariants as part_line
use Rattle.topo_certificate.specs.declared.checker.PartStep.{PartStep}
use Rattle.topo_certificate.specs.declared.checker.PartStep.TheVariants.{More, Next}

-- Lines of the part fit, and after them the text ends with a line that names this solid and begins the next part. The line after that has this number, and the
-- checker stands before the line of the solid.
pub record EndsPart (v : Version) (s : SolidData) (first : ℕ) (text : List ℕ) (n line : ℕ) (c : FedState) : Type 0 where
  pub good : List (List ℕ)
  pub read : List CertLine
  pub fitting : AreFitting v s good read
  pub bytes : List ℕ
  pub cut : cut_lines text ≡ good ++ bytes ∷ []
  pub names : IsLine (line_limit s) bytes (solid_line n)
  pub begins : BeginsNext s (progress_after v s read) n
  pub number : line ≡ first + length read + 1
  pub stands : StandsAfter v s first read [] c

-- The text ends with a line of the part, or with one that begins the next part.
abbrev pub IsEndedBy : Version → SolidData → ℕ → List ℕ → FedState → PartLine → Type 0
IsEndedBy v s first text c part_line.More = IsFedPart v s first text c
IsEndedBy v s first text c (part_line.Next n line) = EndsPart v s first text n.0 line c

-- After this text the piece was taken whole, or as far as a line that ends the part.
abbrev pub IsPartStep : Version → SolidData → ℕ → List ℕ → List ℕ → FedState → PartStep → Type 0
IsPartStep v s first text piece c More = IsFedPart v s first (text ++ piece) c
IsPartStep v s first text piece c (Next n line used) = (used ≤ length piece) × EndsPart v s first (text ++ take used piece) n.0 line c
