-- The certificate that is made of a solid: the parts of its shells, its lines, and its text.
use Rattle.std.specs.Prelude.{◌≡◌, ℕ, List, [], ◌∷◌, true, false, Some, length, ◌++◌, map, flat_map}
use Rattle.iges_params.specs.Contents.{Contents}
use Rattle.iges_params.specs.Limits.{FitsLimits}
use Rattle.brep_walk.specs.Places.{places}
use Rattle.brep_walk.specs.SolidOf.{solid_of}
use Rattle.solid_data.specs.Obligations.{AllHold}
use Rattle.cert_lines.specs.Written.{certificate_lines, text_of, shell_lines}
use Rattle.cert_lines.specs.declared.parts.Certificate.{Certificate}
use Rattle.cert_lines.specs.declared.version.Version.TheVariants.{Two}
use Rattle.cert_accept.specs.Accepted.{IsAccepted, AllJoin, AllApart}
use Rattle.solid_verdict.specs.Closed.{IsClosed}
use Rattle.std.specs.List.{AllZip, AllByRecursion, enumerate_from}
use Rattle.solid_data.specs.SolidData.{SolidData}
use Rattle.solid_data.specs.declared.solid.RowId.{RowId}
use Rattle.solid_data.specs.declared.solid.Shell.{Shell}
use Rattle.edge_uses.specs.ShellRows.{ShellRows, shell_rows}
use Rattle.edge_uses.specs.Mates.{RunsOn}
use Rattle.cert_state.specs.Progress.{loops_of}
use Rattle.vertex_link.specs.Corners.{LiesAt}
use Rattle.shell_reach.specs.Reaching.{ReachesAll, row_numbers}
use Rattle.shell_reach.specs.Reaching.{IsBreadthFirst}
use Rattle.cert_lines.specs.declared.parts.ShellPart.{ShellPart}
use Rattle.cert_lines.specs.Line.{CertLine, end, spelling, HasSpelling}
use Rattle.topo_certificate.specs.Legal.{IsLegal}

-- a row along the edge, and a row against it
abbrev pub AreItsRows : ShellRows → ℕ → RowId × RowId → Type 0
AreItsRows d e p = RunsOn d e true p.0.0 × RunsOn d e false p.1.0

-- The two rows of each edge, what lies at each vertex, both by rising number, and rows that reach the faces breadth first.
pub record IsPart (d : ShellRows) (loop_count : ℕ) (part : ShellPart) : Type 0 where
  pub rows : part.rows ≡ length d.rows
  pub edges : AllZip (AreItsRows d) d.edges part.edges
  pub corners : AllZip (LiesAt d) d.vertices part.corners
  pub faces : part.faces ≡ d.face_count
  pub reach : ReachesAll d (row_numbers part.reach)
  pub order : IsBreadthFirst d (row_numbers part.reach)
  pub vertices : part.vertices ≡ length d.vertices
  pub loops : part.loops ≡ loop_count

-- each part is that of its shell
abbrev pub AreParts : SolidData → List Shell → List ShellPart → Type 0
AreParts s shells parts = AllZip (λ (h : Shell) (part : ShellPart). IsPart (shell_rows s h) (loops_of (Some h)) part) shells parts

-- the lines after the head and the solid
abbrev pub further_lines : Certificate → List CertLine
further_lines c = flat_map (shell_lines c.version) (enumerate_from 1 c.shells) ++ end ∷ []

-- A certificate of the solid: it is of version 2 and names it, its parts are those of its shells, its lines can be spelled, those after the first two are
-- legal, each loop joins and each vertex is apart.
pub record IsCertificate (s : SolidData) (c : Certificate) : Type 0 where
  pub version : c.version ≡ Two
  pub names : c.solid ≡ s.entity
  pub parts : AreParts s s.shells c.shells
  pub spelled : AllByRecursion HasSpelling (certificate_lines c)
  pub legal : IsLegal Two s (map spelling (further_lines c))
  pub joined : AllJoin s
  pub apart : AllApart s

-- the text of the certificate that is made of solid n of the file
abbrev pub IsCertificateText : Contents → ℕ → List ℕ → Type 0
IsCertificateText f n text = (c : Certificate) × IsCertificate (solid_of f n) c × (text ≡ text_of (certificate_lines c))

-- Where the places of the solid hold, this text is an accepted certificate of version 2, and names the solid alone.
abbrev pub CertificateTextIsAccepted : Type 0
CertificateTextIsAccepted = (f : Contents) (n : ℕ) (text : List ℕ) → AllHold (places f n) → IsCertificateText f n text → IsAccepted f text Two (n ∷ [])

-- A solid of a file has one such text.
abbrev pub OneCertificateText : Type 0
OneCertificateText = (f : Contents) (n : ℕ) (a b : List ℕ) → IsCertificateText f n a → IsCertificateText f n b → a ≡ b

-- In a file within its limits, a closed solid has one at least.
abbrev pub ClosedHasText : Type 0
ClosedHasText = (f : Contents) (n : ℕ) → FitsLimits f → IsClosed f n → (text : List ℕ) × IsCertificateText f n text
