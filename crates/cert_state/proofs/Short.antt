-- Lines with small numbers are spelled, and none of them is long.
use Rattle.std.specs.Prelude.{◌≡◌, ℕ, suc, ◌+◌, ◌*◌, ◌<◌, ◌≤◌, ◌^◌, ◌==◌, List, [], ◌∷◌, length, flat_map, count_by, decimal, Some, slice_get}
use Rattle.std.specs.List.{AllByRecursion}
use Rattle.std.proofs.Common.{refl, arith, length-append}
use Rattle.std.proofs.lemmas.Fmt.{length-decimal-le}
use Rattle.std.proofs.lemmas.List.Sums.{count_by-le-length}
use Rattle.std.proofs.lemmas.Option.{slice_get_within}
use Rattle.solid_data.specs.SolidData.{SolidData, shell_uses}
use Rattle.solid_data.specs.declared.solid.LoopAt.{LoopAt}
use Rattle.edge_uses.specs.declared.row.Row.{Row}
use Rattle.edge_uses.specs.ShellRows.{ShellRows}
use Rattle.solid_data.proofs.Members.{Has}
use Rattle.cert_state.specs.Progress.{tallies}
use Rattle.cert_lines.specs.declared.version.Version.{Version}
use Rattle.cert_lines.specs.declared.version.Version.TheVariants.{One, Two, Three}
use Rattle.cert_text.specs.Text.{spaced, IsShort}
use Rattle.cert_lines.specs.Line.{CertLine, shell, edge, corner, point, reach, tally, end, spelling, IsLine, line_limit}
use Rattle.cert_lines.specs.declared.counts.ShellCounts.{ShellCounts}
use Rattle.cert_lines.specs.declared.counts.TallyCounts.{TallyCounts}

-- the sizes of a shell are small
pub record IsSmall (s : SolidData) (d : ShellRows) : Type 0 where
  pub few : length (flat_map shell_uses s.shells) < 2 ^ 29
  pub rows : length d.rows ≤ length (flat_map shell_uses s.shells)
  pub edges : length d.edges < 10 ^ 9
  pub vertices : length d.vertices < 10 ^ 9
  pub faces : d.face_count < 10 ^ 9
  pub points : (p : LoopAt × ℕ) → Has d.points p → (p.0.face.0 + 1 < 10 ^ 9) × (p.0.place + 1 < 10 ^ 9)
  pub shells : length s.shells < 10 ^ 9

pub length-spaced : (ns : List ℕ) → AllByRecursion IsShort ns → length (spaced ns) ≤ 10 * length ns
length-spaced [] h = omega arith
length-spaced (n ∷ ns) h =
    let a = length-append (32 ∷ decimal n) (spaced ns) in
    let b : length (decimal n) ≤ 9 = length-decimal-le 9 n (omega arith) h.0 (omega (arith, h.0)) in
    omega (arith, a, b, length-spaced ns h.1)

-- the line may be read, and is spelled so
abbrev pub IsReadable : SolidData → CertLine → Type 0
IsReadable s l = IsLine (line_limit s) (spelling l) l

pub readable_shell : (s : SolidData) (k : ℕ) (n : ShellCounts) → IsShort k → IsShort n.rows → IsShort n.edges → IsShort n.corners → IsShort n.faces
    → IsReadable s (shell k n)
readable_shell s k n a b c d e =
    let ns : List ℕ = k ∷ n.rows ∷ n.edges ∷ n.corners ∷ n.faces ∷ [] in
    let short : AllByRecursion IsShort ns = (a, (b, (c, (d, (e, tt))))) in
    let h = length-append (spaced ns) (10 ∷ []) in
    (omega (arith, h, length-spaced ns short), (short, refl))

pub readable_tally : (s : SolidData) (t : TallyCounts) → IsShort t.vertices → IsShort t.edges → IsShort t.faces → IsShort t.loops → IsReadable s (tally t)
readable_tally s t a b c d =
    let ns : List ℕ = t.vertices ∷ t.edges ∷ t.faces ∷ t.loops ∷ [] in
    let short : AllByRecursion IsShort ns = (a, (b, (c, (d, tt)))) in
    let h = length-append (spaced ns) (10 ∷ []) in
    (omega (arith, h, length-spaced ns short), (short, refl))

pub readable_edge : (s : SolidData) (a b : ℕ) → IsShort a → IsShort b → IsReadable s (edge a b)
readable_edge s a b p q =
    let ns : List ℕ = a ∷ b ∷ [] in
    let h = length-append (spaced ns) (10 ∷ []) in
    (omega (arith, h, length-spaced ns (p, (q, tt))), ((p, q), refl))

pub readable_point : (s : SolidData) (a b : ℕ) → IsShort a → IsShort b → IsReadable s (point a b)
readable_point s a b p q =
    let ns : List ℕ = a ∷ b ∷ [] in
    let h = length-append (spaced ns) (10 ∷ []) in
    (omega (arith, h, length-spaced ns (p, (q, tt))), ((p, q), refl))

pub readable_reach : (s : SolidData) (a : ℕ) → IsShort a → IsReadable s (reach a)
readable_reach s a p =
    let h = length-append (spaced (a ∷ [])) (10 ∷ []) in
    (omega (arith, h, length-spaced (a ∷ []) (p, tt)), (p, refl))

pub readable_end : (s : SolidData) → IsReadable s end
readable_end s = (omega arith, (tt, refl))

pub readable_corner : (s : SolidData) (r : ℕ) (rs : List ℕ) → AllByRecursion IsShort (r ∷ rs) → length (r ∷ rs) ≤ length (flat_map shell_uses s.shells)
    → IsReadable s (corner (r ∷ rs))
readable_corner s r rs short few =
    let h = length-append (spaced (r ∷ rs)) (10 ∷ []) in
    (omega (arith, h, length-spaced (r ∷ rs) short, few), ((short, omega arith), refl))

-- a row's number is short
pub row_short : (s : SolidData) (d : ShellRows) → IsSmall s d → (n : ℕ) (r : Row) → slice_get d.rows n ≡ Some r → IsShort (suc n)
row_short s d small n r at = omega (arith, slice_get_within d.rows n r at, small.rows, small.few)

pub starts_few : (s : SolidData) (d : ShellRows) → IsSmall s d → (v : ℕ) → count_by (λ (r : Row). r.from.0 == v) d.rows ≤ length (flat_map shell_uses s.shells)
starts_few s d small v = omega (arith, count_by-le-length (λ (r : Row). r.from.0 == v) d.rows, small.rows)

-- a shell ends in one TALLY line at most
pub few_tallies : (version : Version) → tallies version ≤ 1
few_tallies One = omega arith
few_tallies Two = omega arith
few_tallies Three = omega arith
