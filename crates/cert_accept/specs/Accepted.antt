-- Which certificates are accepted for a file, which solids they name, and what is checked before the lines of a certificate.
use Rattle.std.specs.Prelude.{ℕ, List, ◌++◌, ◌↔◌, ◌≡◌, ◌<◌, [], ◌∷◌, length, map, flat_map}
use Rattle.iges_params.specs.Contents.{Contents}
use Rattle.brep_walk.specs.Places.{places}
use Rattle.brep_walk.specs.SolidOf.{solid_of}
use Rattle.solid_data.specs.Obligations.{Obligation, AllHold}
use Rattle.shell_rules.specs.ShellObligations.{checked_obligations}
use Rattle.cert_lines.specs.Opening.{Opens, IsHeaded}
use Rattle.topo_certificate.specs.Legal.{IsLegal}
use Rattle.cert_lines.specs.declared.version.Version.{Version}
use Rattle.std.specs.List.{AllByRecursion, enumerate_from}
use Rattle.std.specs.List.Sorted.{IsStrictlyIncreasing}
use Rattle.solid_data.specs.SolidData.{SolidData, PlacedLoop, placed_loops}
use Rattle.solid_data.specs.declared.solid.Shell.{Shell}
use Rattle.edge_uses.specs.ShellRows.{shell_rows}
use Rattle.edge_uses.specs.Before.{IsApart}
use Rattle.edge_uses.specs.Joins.{IsJoined}
use Rattle.cert_lines.specs.Line.{solid, end, spelling, IsSpelled}
use Rattle.cert_lines.specs.declared.version.Version.TheVariants.{One, Two, Three}

-- each loop of the solid joins
abbrev pub AllJoin : SolidData → Type 0
AllJoin s = AllByRecursion (λ (p : PlacedLoop). IsJoined s p.loop) (flat_map placed_loops s.shells)

-- each vertex is in one shell
abbrev pub AllApart : SolidData → Type 0
AllApart s = AllByRecursion (λ (h : ℕ × Shell). AllByRecursion (IsApart s h.0) (shell_rows s h.1).vertices) (enumerate_from 0 s.shells)

-- Solid n of the file has its places, its loops join, its vertices are apart, and these lines, the last of them END, are legal for it.
pub record Certify (v : Version) (f : Contents) (n : ℕ) (lines : List (List ℕ)) : Type 0 where
  pub placed : AllHold (places f n)
  pub joined : AllJoin (solid_of f n)
  pub apart : AllApart (solid_of f n)
  pub legal : IsLegal v (solid_of f n) lines

-- A certificate of one solid: it opens with the head of its version and the number of the solid, and its further lines certify this.
pub record IsAcceptedAlone (v : Version) (f : Contents) (n : ℕ) (certificate : List ℕ) : Type 0 where
  pub rest : List (List ℕ)
  pub opens : Opens certificate v n rest
  pub certified : Certify v f n rest

-- A part of a book: the solid that it names, the bytes of the line that names it, and those of its further lines.
pub record Part : Type 0 where
  pub solid : ℕ
  pub first : List ℕ
  pub further : List (List ℕ)

abbrev pub part_lines : Part → List (List ℕ)
part_lines p = p.first ∷ p.further

abbrev pub solids_named : List Part → List ℕ
solids_named parts = map (λ (p : Part). p.solid) parts

-- It names its solid, and its further lines, and then END, certify this as a certificate of version 2 does.
pub record IsGoodPart (f : Contents) (p : Part) : Type 0 where
  pub names : IsSpelled p.first (solid p.solid)
  pub certified : Certify Two f p.solid (p.further ++ spelling end ∷ [])

-- A book: after the head of version 3 come one or more good parts, by rising solid, and then END.
pub record IsAcceptedBook (f : Contents) (certificate : List ℕ) (parts : List Part) : Type 0 where
  pub headed : IsHeaded certificate Three (flat_map part_lines parts ++ spelling end ∷ [])
  pub some : 0 < length parts
  pub rising : IsStrictlyIncreasing (solids_named parts)
  pub good : AllByRecursion (IsGoodPart f) parts

-- The certificate has this version, is accepted for the file, and names these solids.
abbrev pub IsAccepted : Contents → List ℕ → Version → List ℕ → Type 0
IsAccepted f certificate One ns = (n : ℕ) × (ns ≡ n ∷ []) × IsAcceptedAlone One f n certificate
IsAccepted f certificate Two ns = (n : ℕ) × (ns ≡ n ∷ []) × IsAcceptedAlone Two f n certificate
IsAccepted f certificate Three ns = (parts : List Part) × (ns ≡ solids_named parts) × IsAcceptedBook f certificate parts

-- the places of solid n, and then shell by shell that its loops join and its vertices are apart
unfoldable pub checked : Contents → ℕ → List Obligation
checked f n = places f n ++ checked_obligations (solid_of f n)

-- A certificate of one solid is accepted exactly where it opens so, all that is checked holds, and its further lines are legal.
abbrev pub AcceptedIsChecked : Type 0
AcceptedIsChecked = (v : Version) (f : Contents) (n : ℕ) (certificate : List ℕ)
    → IsAcceptedAlone v f n certificate ↔ ((rest : List (List ℕ)) × Opens certificate v n rest × AllHold (checked f n) × IsLegal v (solid_of f n) rest)
