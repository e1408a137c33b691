-- It can be told whether lines are spelled, and whether they fit.
use Rattle.std.specs.Prelude.{◌≡◌, ◌≢◌, ◌⊎◌, ℕ, zero, suc, ◌+◌, ◌<◌, ◌≤◌, ◌^◌, ◌==◌, Bool, true, false, not, List, [], ◌∷◌, ◌++◌, length, map, codes, decimal}
use Rattle.std.specs.Prelude.{count_by, slice_get, Option, Some, None, if◌then◌else◌}
use Rattle.std.specs.List.{AllByRecursion}
use Rattle.std.proofs.Common.{refl, sym, ◌∙◌, ap, subst, arith, inl, inr, ⊎_elim, get_or, length-append}
use Rattle.std.proofs.lemmas.Option.{same_Some, slice_get_within}
use Rattle.std.proofs.lemmas.Slice.Eq.{bytes_eq-Decides}
use Rattle.solid_data.specs.Ring.{next_of_each}
use Rattle.solid_data.specs.SolidData.{SolidData}
use Rattle.solid_data.proofs.Decisions.{Decided, decided_alike, decided_by, decided_same, decided_bool, decided_below, decided_both, decided_three, decided_not}
use Rattle.solid_data.proofs.Decisions.{decided_found, decided_bounded, decided_each, decided_all, decided_zip, decided_list, above_all, below_all}
use Rattle.solid_data.proofs.ChainsDecided.{leads_decided}
use Rattle.edge_uses.specs.declared.row.Row.{Row}
use Rattle.edge_uses.specs.ShellRows.{ShellRows}
use Rattle.edge_uses.specs.RowRelations.{OnFace}
use Rattle.shell_rules.proofs.Decided.{edge_id_decided}
use Rattle.orient_certificate.specs.Partners.{HasTwoRows, ArePartners, Adjoin, IsReached}
use Rattle.orient_certificate.specs.Flags.{FlagsFit, PartnersDiffer, face_flags, rows_at, rows_with}
use Rattle.orient_certificate.specs.OddRing.{OddRing, GoesOn, RunsAlike, OddlyMany, bare_rows}
use Rattle.cert_text.specs.Text.{IsShort, spaced}
use Rattle.orient_certificate.specs.Line.{HasSpelling, IsSpelled, flag_number, spelling}
use Rattle.orient_certificate.specs.declared.line.OrientLine.{OrientLine}
use Rattle.orient_certificate.specs.declared.line.OrientLine.TheVariants.{Head, Flags, Ring, End}
use Rattle.orient_certificate.proofs.Lines.{flags_short, line_one, flags_back, rebuilt, numbers_short}
use Rattle.orient_commands.proofs.ShellSteps.{name_ring}
use Rattle.orient_commands.specs.Text.{NameOddRing, IsLineOf, FitsAs, Fits}
use Rattle.cert_lines.proofs.Decided.{spaced_longer}

-- Spelled lines.

numbers_decided : (ns : List ℕ) → Decided (AllByRecursion IsShort ns)
numbers_decided ns = decided_all IsShort (λ n. decided_below n (10 ^ 9)) ns

has_spelling_decided : (l : OrientLine) → Decided (HasSpelling l)
has_spelling_decided (Head solid) = decided_below solid.0 (10 ^ 9)
has_spelling_decided (Flags shell flags) = decided_both (decided_below shell (10 ^ 9)) (decided_below 0 (length flags))
has_spelling_decided (Ring shell rows) = decided_both (numbers_decided (shell ∷ rows)) (decided_below 0 (length rows))
has_spelling_decided End = inl tt

spelled_decided : (bytes : List ℕ) (l : OrientLine) → Decided (IsSpelled bytes l)
spelled_decided bytes l = decided_both (has_spelling_decided l) (decided_by _ (bytes_eq-Decides bytes (spelling l)))

-- A line is its kind and its numbers.
abbrev kind_of : OrientLine → ℕ
kind_of (Head solid) = 0
kind_of (Flags shell flags) = 1
kind_of (Ring shell rows) = 2
kind_of End = 3

abbrev numbers_in : OrientLine → List ℕ
numbers_in (Head solid) = solid.0 ∷ []
numbers_in (Flags shell flags) = shell ∷ map flag_number flags
numbers_in (Ring shell rows) = shell ∷ rows
numbers_in End = []

abbrev rest_of : List ℕ → List ℕ
rest_of [] = []
rest_of (x ∷ xs) = xs

abbrev flag_back : ℕ → Bool
flag_back n = n == 1

abbrev line_from : ℕ → List ℕ → OrientLine
line_from k ns = if k == 0 then Head (record { 0 = get_or ns 0 0 }) else
    (if k == 1 then Flags (get_or ns 0 0) (map flag_back (rest_of ns)) else (if k == 2 then Ring (get_or ns 0 0) (rest_of ns) else End))

kind_below : (l : OrientLine) → kind_of l < 4
kind_below (Head solid) = omega arith
kind_below (Flags shell flags) = omega arith
kind_below (Ring shell rows) = omega arith
kind_below End = omega arith

longer : (front : List ℕ) (ns : List ℕ) → length ns ≤ length ((front ++ spaced ns) ++ 10 ∷ [])
longer front ns = omega (arith, spaced_longer ns, length-append front (spaced ns), length-append (front ++ spaced ns) (10 ∷ []))

few_in : (l : OrientLine) → length (numbers_in l) ≤ length (spelling l)
few_in (Head solid) = longer (codes "ORIENT") (solid.0 ∷ [])
few_in (Flags shell flags) = longer (codes "F") (shell ∷ map flag_number flags)
few_in (Ring shell rows) = longer (codes "O") (shell ∷ rows)
few_in End = omega arith

few_numbers : (bytes : List ℕ) (l : OrientLine) → IsSpelled bytes l → length (numbers_in l) ≤ length bytes
few_numbers bytes l h = subst (λ (b : List ℕ). length (numbers_in l) ≤ length b) (sym h.1) (few_in l)

-- The bytes spell the line of this kind and some numbers, no more of them than bytes.
SpellsKind : List ℕ → ℕ → Type 0
SpellsKind bytes k = (ns : List ℕ) × (length ns ≤ length bytes) × AllByRecursion IsShort ns × IsSpelled bytes (line_from k ns)

-- A line is searched for by its kind and its numbers.
pub some_line_decided : (bytes : List ℕ) → Decided ((l : OrientLine) × IsSpelled bytes l)
unfolding SpellsKind
some_line_decided bytes =
    decided_alike (λ (k, lt, (ns, few, short, h)). (line_from k ns, h))
    (λ (l, h). (kind_of l, kind_below l, (numbers_in l, few_numbers bytes l h, numbers_short l h.0, subst (IsSpelled bytes) (sym (rebuilt l)) h)))
    (decided_bounded (SpellsKind bytes)
    (λ k. decided_list (λ ns. IsSpelled bytes (line_from k ns)) (λ ns. spelled_decided bytes (line_from k ns)) (10 ^ 9) (length bytes)) 4)

-- Partners.

pub two_decided : (d : ShellRows) (e : ℕ) → Decided (HasTwoRows d e)
two_decided d e = decided_same (count_by (λ (r : Row). r.edge.0 == e) d.rows) 2

abbrev AreTwo : ShellRows → ℕ → ℕ → Row → Row → Type 0
AreTwo d r m row partner = (row.edge ≡ partner.edge) × (r ≢ m) × HasTwoRows d row.edge.0

partners_decided : (d : ShellRows) (r m : ℕ) → Decided (ArePartners d r m)
partners_decided d r m =
    decided_alike (λ (row, at_r, (partner, at_m, (one, apart, two))).
    record { row = row; partner = partner; at_r = at_r; at_m = at_m; one_edge = one; apart = apart; two = two })
    (λ h. (h.row, h.at_r, (h.partner, h.at_m, (h.one_edge, h.apart, h.two))))
    (decided_found (slice_get d.rows r) (λ row. (partner : Row) × (slice_get d.rows m ≡ Some partner) × AreTwo d r m row partner)
    (λ row. decided_found (slice_get d.rows m) (AreTwo d r m row)
    (λ partner. decided_three (edge_id_decided row.edge partner.edge) (decided_not (decided_same r m)) (two_decided d row.edge.0))))

on_face_decided : (d : ShellRows) (face r : ℕ) → Decided (OnFace d face r)
on_face_decided d face r = decided_found (slice_get d.rows r) (λ (row : Row). row.at.face.0 ≡ face) (λ row. decided_same row.at.face.0 face)

-- Faces.

adjoin_decided : (d : ShellRows) (a b : ℕ) → Decided (Adjoin d a b)
adjoin_decided d a b =
    decided_alike (λ (r, lt, (m, below, (partners, on_a, on_b))). (r, m, partners, on_a, on_b))
    (λ (r, m, partners, on_a, on_b).
    (r, slice_get_within d.rows r partners.row partners.at_r, (m, slice_get_within d.rows m partners.partner partners.at_m, (partners, on_a, on_b))))
    (decided_bounded (λ r. (m : ℕ) × (m < length d.rows) × (ArePartners d r m × OnFace d a r × OnFace d b m))
    (λ r. decided_bounded (λ m. ArePartners d r m × OnFace d a r × OnFace d b m)
    (λ m. decided_three (partners_decided d r m) (on_face_decided d a r) (on_face_decided d b m)) (length d.rows)) (length d.rows))

face_number : Row → ℕ
face_number row = row.at.face.0

on_below : (d : ShellRows) (face r : ℕ) → OnFace d face r → face < above_all face_number d.rows
unfolding face_number
on_below d face r (row, at, e) = subst (λ z. z < above_all face_number d.rows) e (below_all face_number d.rows r row at)

adjoin_below : (d : ShellRows) (a b : ℕ) → Adjoin d a b → b < above_all face_number d.rows
adjoin_below d a b (r, m, partners, on_a, on_b) = on_below d b m on_b

pub reached_decided : (d : ShellRows) (face : ℕ) → Decided (IsReached d face)
reached_decided d face = leads_decided (Adjoin d) (adjoin_decided d) (above_all face_number d.rows) (adjoin_below d) 0 face

-- Flags.

abbrev DifferAt : ShellRows → ℕ → ℕ → Type 0
DifferAt d r m = (a b : Row) → ArePartners d r m → slice_get d.rows r ≡ Some a → slice_get d.rows m ≡ Some b → a.along ≡ not b.along

differ_at_decided : (d : ShellRows) (r m : ℕ) → Decided (DifferAt d r m)
differ_at_decided d r m = ⊎_elim (λ p. decided_alike (here p) (λ f. f p.row p.partner p p.at_r p.at_m) (decided_bool p.row.along (not p.partner.along)))
    (λ never. inl (λ a b p at_r at_m. absurd (never p))) (partners_decided d r m)
  where
    here : (p : ArePartners d r m) → p.row.along ≡ not p.partner.along → DifferAt d r m
    here p e a b q at_r at_m =
        let x : p.row ≡ a = same_Some p.row a (sym p.at_r ∙ at_r) in
        let y : p.partner ≡ b = same_Some p.partner b (sym p.at_m ∙ at_m) in
        sym (ap (λ (w : Row). w.along) x) ∙ e ∙ ap (λ (w : Row). not w.along) y

differ_decided : (d : ShellRows) → Decided (PartnersDiffer d)
differ_decided d =
    decided_alike (λ f r m a b p at_r at_m. f r (slice_get_within d.rows r a at_r) m (slice_get_within d.rows m b at_m) a b p at_r at_m)
    (λ f r lt m below a b p at_r at_m. f r m a b p at_r at_m)
    (decided_each (λ r. (m : ℕ) → m < length d.rows → DifferAt d r m) (λ r. decided_each (DifferAt d r) (differ_at_decided d r) (length d.rows))
    (length d.rows))

option_decided : (o p : Option Bool) → Decided (o ≡ p)
option_decided None None = inl refl
option_decided None (Some b) = inr (λ e. cc)
option_decided (Some a) None = inr (λ e. cc)
option_decided (Some a) (Some b) = decided_alike (ap Some) (same_Some a b) (decided_bool a b)

fit_decided : (s : SolidData) (k : ℕ) (flags : List Bool) → Decided (FlagsFit s k flags)
fit_decided s k flags =
    decided_alike (λ (each, first, differ). record { each = each; first = first; differ = differ }) (λ h. (h.each, h.first, h.differ))
    (decided_three (decided_same (length flags) (length (face_flags (slice_get s.shells k))))
    (option_decided (slice_get flags 0) (slice_get (face_flags (slice_get s.shells k)) 0)) (differ_decided (rows_with s k flags)))

-- Rings.

goes_decided : (d : ShellRows) (r next : ℕ) → Decided (GoesOn d r next)
goes_decided d r next =
    decided_alike (λ (m, lt, (face, below, (partners, on, at))). (m, face, partners, on, at))
    (λ (m, face, partners, on, at). (m, slice_get_within d.rows m partners.partner partners.at_m, (face, on_below d face m on, (partners, on, at))))
    (decided_bounded (λ m. (face : ℕ) × (face < above_all face_number d.rows) × (ArePartners d r m × OnFace d face m × OnFace d face next))
    (λ m. decided_bounded (λ face. ArePartners d r m × OnFace d face m × OnFace d face next)
    (λ face. decided_three (partners_decided d r m) (on_face_decided d face m) (on_face_decided d face next)) (above_all face_number d.rows))
    (length d.rows))

abbrev AlikeAt : SolidData → ℕ → ℕ → ℕ → Type 0
AlikeAt s k r m = ArePartners (rows_at s k) r m
    × ((a : Row) × (slice_get (bare_rows s k).rows r ≡ Some a) × ((b : Row) × (slice_get (bare_rows s k).rows m ≡ Some b) × (a.along ≡ b.along)))

alike_decided : (s : SolidData) (k r : ℕ) → Decided (RunsAlike s k r)
alike_decided s k r =
    decided_alike (λ (m, lt, (partners, (a, at_r, (b, at_m, alike)))).
    record { m = m; a = a; b = b; partners = partners; at_r = at_r; at_m = at_m; alike = alike })
    (λ h. (h.m, slice_get_within (rows_at s k).rows h.m h.partners.partner h.partners.at_m, (h.partners, (h.a, h.at_r, (h.b, h.at_m, h.alike)))))
    (decided_bounded (AlikeAt s k r)
    (λ m. decided_both (partners_decided (rows_at s k) r m)
    (decided_found (slice_get (bare_rows s k).rows r) (λ a. (b : Row) × (slice_get (bare_rows s k).rows m ≡ Some b) × (a.along ≡ b.along))
    (λ a. decided_found (slice_get (bare_rows s k).rows m) (λ b. a.along ≡ b.along) (λ b. decided_bool a.along b.along)))) (length (rows_at s k).rows))

oddly_decided : (P : ℕ → Type 0) → ((x : ℕ) → Decided (P x)) → (odd : Bool) (xs : List ℕ) → Decided (OddlyMany P odd xs)
oddly_decided P each odd [] = decided_bool odd false
oddly_decided P each odd (x ∷ xs) = by_first (each x) (oddly_decided P each (not odd) xs) (oddly_decided P each odd xs)
  where
    by_first : Decided (P x) → Decided (OddlyMany P (not odd) xs) → Decided (OddlyMany P odd xs) → Decided (OddlyMany P odd (x ∷ xs))
    by_first (inl p) turned same = decided_alike (λ h. inl (p, h)) (λ h. ⊎_elim (λ q. q.1) (λ q. absurd (q.0 p)) h) turned
    by_first (inr never) turned same = decided_alike (λ h. inr (never, h)) (λ h. ⊎_elim (λ q. absurd (never q.0)) (λ q. q.1) h) same

ring_decided : (s : SolidData) (k : ℕ) (rows : List ℕ) → Decided (OddRing s k rows)
ring_decided s k rows =
    decided_alike (λ (some, closed, odd). record { some = some; closed = closed; odd = odd }) (λ h. (h.some, h.closed, h.odd))
    (decided_three (decided_below 0 (length rows)) (decided_zip (GoesOn (rows_at s k)) (goes_decided (rows_at s k)) rows (next_of_each rows))
    (oddly_decided (RunsAlike s k) (alike_decided s k) true rows))

rows_named : (numbers : List ℕ) → ((rows : List ℕ) × (numbers ≡ map suc rows)) ⊎ ((rows : List ℕ) → numbers ≡ map suc rows → ⊥)
rows_named [] = inl ([], refl)
rows_named (zero ∷ ns) = inr none
  where
    none : (rows : List ℕ) → zero ∷ ns ≡ map suc rows → ⊥
    none [] e = cc
    none (r ∷ rows) e = let bad : zero ≡ suc r = ap (λ xs. get_or xs 0 0) e in omega (arith, bad)
rows_named (suc n ∷ ns) = ⊎_elim (λ (rows, e). inl (n ∷ rows, ap (λ xs. suc n ∷ xs) e)) (λ none. inr (later none)) (rows_named ns)
  where
    later : ((rows : List ℕ) → ns ≡ map suc rows → ⊥) → (rows : List ℕ) → suc n ∷ ns ≡ map suc rows → ⊥
    later none [] e = cc
    later none (r ∷ rows) e = none rows cc

name_decided : (s : SolidData) (k : ℕ) (numbers : List ℕ) → Decided (NameOddRing s k numbers)
name_decided s k numbers = ⊎_elim
    (λ (rows, e). let both = name_ring s k numbers rows (OddRing s k rows) e ((λ r. r), (λ r. r)) in decided_alike both.0 both.1 (ring_decided s k rows))
    (λ none. inr (λ (rows, e, ring). none rows e)) (rows_named numbers)

-- Lines that fit.

line_of_decided : (s : SolidData) (i number k : ℕ) → Decided (IsLineOf s i number k)
line_of_decided s i number k =
    decided_alike (λ (within, numbered, at). record { within = within; numbered = numbered; at = at }) (λ h. (h.within, h.numbered, h.at))
    (decided_three (decided_below k (length s.shells)) (decided_same number (k + 1)) (decided_same i (k + 2)))

of_shell_decided : (s : SolidData) (i number : ℕ) (P : ℕ → Type 0) → ((k : ℕ) → Decided (P k)) → Decided ((k : ℕ) × IsLineOf s i number k × P k)
of_shell_decided s i number P each =
    decided_alike (λ (k, lt, (of, p)). (k, of, p)) (λ (k, of, p). (k, of.within, (of, p)))
    (decided_bounded (λ k. IsLineOf s i number k × P k) (λ k. decided_both (line_of_decided s i number k) (each k)) (length s.shells))

fits_as_decided : (s : SolidData) (i : ℕ) (line : OrientLine) → Decided (FitsAs s i line)
fits_as_decided s i (Head solid) = inr (λ h. h)
fits_as_decided s i (Flags shell flags) = of_shell_decided s i shell (λ k. FlagsFit s k flags) (λ k. fit_decided s k flags)
fits_as_decided s i (Ring shell numbers) = of_shell_decided s i shell (λ k. NameOddRing s k numbers) (λ k. name_decided s k numbers)
fits_as_decided s i End = decided_same i (length s.shells + 2)

pub fits_decided : (s : SolidData) (l : ℕ × List ℕ) → Decided (Fits s l)
fits_decided s (i, bytes) = by_line (some_line_decided bytes)
  where
    by_line : Decided ((line : OrientLine) × IsSpelled bytes line) → Decided (Fits s (i, bytes))
    by_line (inl (line, is)) = decided_alike (λ fit. (line, is, fit)) (λ (other, also, fit). subst (FitsAs s i) (line_one bytes other line also is) fit)
        (fits_as_decided s i line)
    by_line (inr none) = inr (λ (line, is, fit). none (line, is))
