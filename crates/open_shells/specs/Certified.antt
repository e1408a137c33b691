-- What the maker gives.
use Rattle.std.specs.Prelude.{◌≡◌, List, ⊤, map, Result, Ok, Err}
use Rattle.std.specs.List.{AllByRecursion}
use Rattle.solid_data.specs.SolidData.{SolidData}
use Rattle.open_certificate.specs.Line.{spelling, HasSpelling}
use Rattle.open_certificate.specs.Legal.{IsOpenLegal}
use Rattle.open_certificate.specs.Written.{further_lines, open_lines}
use Rattle.open_certificate.specs.Obligations.{OpenObligation, FirstFalse}
use Rattle.open_certificate.specs.declared.verdict.OpenFailing.{OpenFailing}
use Rattle.open_certificate.specs.declared.parts.OpenCertificate.{OpenCertificate}
use Rattle.open_shells.specs.declared.fault.OpenFault.{OpenFault}
use Rattle.open_shells.specs.declared.fault.OpenFault.TheVariants.{Fails, NoMemory}

-- A certificate of the solid's one shell: it names it, its lines can be spelled, and those after the head are legal.
pub record IsOpenCertificate (s : SolidData) (c : OpenCertificate) : Type 0 where
  pub names : c.shell ≡ s.entity
  pub spelled : AllByRecursion HasSpelling (open_lines c)
  pub legal : IsOpenLegal s (map spelling (further_lines c))

-- the first false one of the obligations, or that memory ran out
abbrev pub IsOpenFault : List OpenObligation → OpenFault → Type 0
IsOpenFault os (Fails x) = FirstFalse os x
IsOpenFault os NoMemory = ⊤

-- nothing but that memory ran out
abbrev pub IsNoMemory : OpenFault → Type 0
IsNoMemory (Fails x) = ⊥
IsNoMemory NoMemory = ⊤

-- It fails so, unless memory ran out.
abbrev pub FailsSo : {A : Type 0} → OpenFailing → Result A OpenFault → Type 0
FailsSo x (Ok made) = ⊥
FailsSo x (Err (Fails y)) = y ≡ x
FailsSo x (Err NoMemory) = ⊤
