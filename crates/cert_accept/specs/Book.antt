-- What a book shows first that is false.
use Rattle.std.specs.Prelude.{◌≡◌, ℕ, ◌+◌, ◌⊎◌, List, [], ◌∷◌, ◌++◌, length, flat_map}
use Rattle.std.specs.List.{AllByRecursion}
use Rattle.std.specs.List.Sorted.{IsStrictlyIncreasing}
use Rattle.iges_params.specs.Contents.{Contents}
use Rattle.brep_walk.specs.SolidOf.{solid_of}
use Rattle.solid_data.specs.Obligations.{AllHold, FirstFalse}
use Rattle.solid_data.specs.declared.verdict.Failing.{Failing}
use Rattle.cert_lines.specs.Line.{solid, IsSpelled}
use Rattle.cert_lines.specs.Opening.{IsSecondWrong}
use Rattle.cert_lines.specs.declared.version.Version.TheVariants.{Two}
use Rattle.cert_text.specs.declared.fault.Illegal.{Illegal}
use Rattle.topo_certificate.specs.Legal.{IsPartBad}
use Rattle.cert_accept.specs.Accepted.{Part, part_lines, solids_named, IsGoodPart}
use Rattle.cert_accept.specs.Accepted.{checked}

-- an obligation of a solid that is false, or a line
pub data BookRefusal : Type 0 where
  fails : ℕ → Failing → BookRefusal
  illegal : Illegal → BookRefusal

-- Of the part of a solid whose first further line has this number: the first false obligation that is checked before its lines, or else the first bad line.
abbrev pub IsPartFault : Contents → ℕ → ℕ → List (List ℕ) → BookRefusal → Type 0
IsPartFault f n number lines (fails m x) = (m ≡ n) × FirstFalse (checked f n) x
IsPartFault f n number lines (illegal bad) = AllHold (checked f n) × IsPartBad Two (solid_of f n) number lines bad

-- After good parts the rest, whose first line has this number, begins a part with a greater solid and a fault. Where there is no part, the line that names the
-- first solid may be what is bad.
abbrev pub IsRestBad : Contents → List Part → ℕ → List (List ℕ) → BookRefusal → Type 0
IsRestBad f before number rest fault =
    ((before ≡ []) × ((bad : Illegal) × (fault ≡ illegal bad) × IsSecondWrong rest bad))
    ⊎ ((p : Part) × (rest ≡ part_lines p) × IsSpelled p.first (solid p.solid) × IsStrictlyIncreasing (solids_named (before ++ p ∷ []))
    × IsPartFault f p.solid (number + 1) p.further fault)

-- The lines of a book after its head, from line 2 on: good parts, and then a rest that is bad.
pub record IsBookBad (f : Contents) (lines : List (List ℕ)) (fault : BookRefusal) : Type 0 where
  pub before : List Part
  pub good : AllByRecursion (IsGoodPart f) before
  pub rest : List (List ℕ)
  pub cut : lines ≡ flat_map part_lines before ++ rest
  pub bad : IsRestBad f before (2 + length (flat_map part_lines before)) rest fault
