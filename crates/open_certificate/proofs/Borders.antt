-- The border lines of legal lines are cycles that hold each border row once.
use Rattle.std.specs.Prelude.{◌≡◌, ℕ, zero, suc, ◌+◌, ◌-◌, ◌<◌, ◌≤◌, ◌==◌, ◌⊎◌, true, List, [], ◌∷◌, ◌++◌, length, map, filter_map, flat_map, count_by}
use Rattle.std.specs.Prelude.{Contains, Some, slice_get}
use Rattle.std.specs.List.{AllByRecursion, AllZip}
use Rattle.std.proofs.Common.{refl, sym, ◌∙◌, ap, subst, arith, inl, inr, ⊎_elim}
use Rattle.std.proofs.lemmas.Option.{same_Some, none-some}
use Rattle.std.proofs.lemmas.Bool.Decides.{eqb_tells}
use Rattle.solid_data.specs.Chain.{Steps, LeadsTo}
use Rattle.solid_data.specs.Ring.{next_of_each}
use Rattle.solid_data.specs.SolidData.{SolidData}
use Rattle.solid_data.specs.declared.solid.VertexId.{VertexId}
use Rattle.solid_data.proofs.Members.{Has, NoRepeat, total, count_by-total, covers, Has-from_Contains, Contains-from_Has, All-at, All-from, has_append}
use Rattle.solid_data.proofs.Members.{has_flat_map, from_flat_map}
use Rattle.solid_data.proofs.Trail.{Trail, leads_on, next_on, no_repeat}
use Rattle.edge_uses.specs.declared.row.Row.{Row}
use Rattle.edge_uses.specs.ShellRows.{ShellRows}
use Rattle.edge_uses.specs.RowRelations.{Turns, StartsAt}
use Rattle.edge_uses.proofs.Counting.{mark, mark-same, mark-other, marks-one}
use Rattle.cert_state.specs.Progress.{row_named, first_of, IsAbove}
use Rattle.cert_state.proofs.Segment.{AreGoodRows, Falls, falls_more, named_has}
use Rattle.open_certificate.specs.Sound.{IsBorder, IsBorderCycle, IsBorderCycleOf, IsFanned, GoesOn, row_total}
use Rattle.open_certificate.specs.Line.{OpenLine, head, shell, edge, lone, cycle, path, point, reach, border, end, IsSpelled}
use Rattle.open_certificate.specs.Progress.{progress_from_latest, shell_of, GoesOnTo, FitsLine, lone_in, mates_in, edge_in, is_edge, number_of, border_in}
use Rattle.open_certificate.specs.Progress.{border_rows}
use Rattle.open_certificate.specs.Legal.{IsLegalAfter, IsOpenLegal}
use Rattle.open_certificate.specs.Laws.{cycle_in, rows_in, AreAllBorders, BordersAreCycles}
use Rattle.open_certificate.proofs.Spelling.{line_one}
use Rattle.open_certificate.proofs.Once.{lone_border, border_listed}
use Rattle.open_certificate.proofs.Fans.{lone_no_mate}
use Rattle.open_certificate.proofs.Facts.{AllFit, FitsAll, facts_listed, proper_of, fits_all}
use Rattle.open_certificate.proofs.Sound.{good_shell}

-- the listed rows are border rows
abbrev pub AreBorder : ShellRows → List ℕ → Type 0
AreBorder d alone = (a : ℕ) → Contains alone a → (row : Row) × (row_named d a ≡ Some row) × (row_total d row.edge.0 ≡ 1)

-- one of them at most starts at each vertex
abbrev pub StartApart : ShellRows → List ℕ → Type 0
StartApart d alone = (a b : ℕ) (x y : Row) → Contains alone a → Contains alone b → row_named d a ≡ Some x → row_named d b ≡ Some y → x.from ≡ y.from → a ≡ b

-- a border row has no turn, so chains from it have no step
stuck : (d : ShellRows) (r s : ℕ) (row : Row) → slice_get d.rows r ≡ Some row → row_total d row.edge.0 ≡ 1 → LeadsTo (Turns d) r s → r ≡ s
stuck d r s row at one (zero, e) = e
stuck d r s row at one (suc n, (c, t, rest)) = absurd (lone_no_mate d r t.0 row at one t.1)

pub start_apart : (d : ShellRows) (alone : List ℕ) → AreGoodRows d → ((v : ℕ) → Has d.vertices v → IsFanned d v) → AreBorder d alone → StartApart d alone
start_apart d alone good fanned borders a b x y in_a in_b at_a at_b same = by_numbers a b (borders a in_a) (borders b in_b) at_a at_b
  where
    at_fan : (r s : ℕ) → (v : ℕ) → IsFanned d v → StartsAt d v r → StartsAt d v s → row_total d x.edge.0 ≡ 1 → row_total d y.edge.0 ≡ 1
        → slice_get d.rows r ≡ Some x → slice_get d.rows s ≡ Some y → r ≡ s
    at_fan r s v (inl fan) st_r st_s one_x one_y at_r at_s = ⊎_elim (λ c. stuck d r s x at_r one_x c) (λ c. sym (stuck d s r y at_s one_y c))
        (fan.one_fan r s st_r st_s)
    at_fan r s v (inr spot) st_r st_s one_x one_y at_r at_s = absurd (spot.no_row r st_r)

    by_numbers : (a b : ℕ) → ((row : Row) × (row_named d a ≡ Some row) × (row_total d row.edge.0 ≡ 1))
        → ((row : Row) × (row_named d b ≡ Some row) × (row_total d row.edge.0 ≡ 1)) → row_named d a ≡ Some x → row_named d b ≡ Some y → a ≡ b
    by_numbers zero b p q at_a at_b = absurd (none-some x at_a)
    by_numbers (suc r) zero p q at_a at_b = absurd (none-some y at_b)
    by_numbers (suc r) (suc s) p q at_a at_b =
        let one_x : row_total d x.edge.0 ≡ 1 = subst (λ (z : Row). row_total d z.edge.0 ≡ 1) (same_Some p.0 x (sym p.1 ∙ at_a)) p.2 in
        let one_y : row_total d y.edge.0 ≡ 1 = subst (λ (z : Row). row_total d z.edge.0 ≡ 1) (same_Some q.0 y (sym q.1 ∙ at_b)) q.2 in
        let known : Has d.vertices x.from.0 = named_has (λ (z : Row). Has d.vertices z.from.0) d (suc r) x good.starts at_a in
        ap suc (at_fan r s x.from.0 (fanned x.from.0 known) (x, at_a, refl) (y, at_b, ap (λ (w : VertexId). w.0) (sym same)) one_x one_y at_a at_b)

-- from a listed row to a listed row that starts where it ends
abbrev pub Goes : ShellRows → List ℕ → ℕ → ℕ → Type 0
Goes d alone a b = GoesOnTo d a b × Contains alone a × Contains alone b

pub goes_one : (d : ShellRows) (alone : List ℕ) → StartApart d alone → (a b c : ℕ) → Goes d alone a b → Goes d alone a c → b ≡ c
goes_one d alone apart a b c ((x, y, at_x, at_y, meet), in_a, in_b) ((u, z, at_u, at_z, join), in_a2, in_c) =
    let same : x ≡ u = same_Some x u (sym at_x ∙ at_u) in
    apart b c y z in_b in_c at_y at_z (sym meet ∙ (ap (λ (r : Row). r.to) same ∙ join))

pub ring_trail : (d : ShellRows) (alone : List ℕ) (r : ℕ) (rs : List ℕ) (z : ℕ) → AllByRecursion (Contains alone) (r ∷ rs) → Contains alone z
    → AllZip (GoesOnTo d) (r ∷ rs) (rs ++ z ∷ []) → Trail (Goes d alone) r rs z
ring_trail d alone r [] z all last h = (h.0, all.0, last)
ring_trail d alone r (w ∷ ws) z all last h = ((h.0, all.0, all.1.0), ring_trail d alone w ws z all.1 last h.1)

pub keeps_steps : (R : ℕ → ℕ → Type 0) (P : ℕ → Type 0) → ((x y : ℕ) → P x → R x y → P y) → (n a b : ℕ) → Steps R n a b → P a → P b
keeps_steps R P keep zero a b e p = subst P e p
keeps_steps R P keep (suc n) a b (c, r, rest) p = keeps_steps R P keep n c b rest (keep a c p r)

above_first : (r : ℕ) (rs : List ℕ) → AllByRecursion (λ x. r < x) rs → (x : ℕ) → Has (r ∷ rs) x → r ≤ x
above_first r rs all x (inl e) = omega (arith, e)
above_first r rs all x (inr m) = let lt : r < x = All-at (λ y. r < y) rs all x m in omega (arith, lt)

not_after : (r : ℕ) (rs : List ℕ) → AllByRecursion (λ x. r < x) rs → Has rs r → ⊥
not_after r rs all m = let lt : r < r = All-at (λ y. r < y) rs all r m in omega (arith, lt)

-- what border lines show of the rows that they list
pub record RingFacts (d : ShellRows) (alone firsts rows : List ℕ) : Type 0 where
  pub falls : Falls firsts
  pub apart : NoRepeat rows
  pub within : (x : ℕ) → Has rows x → Contains alone x
  pub closed : (x y : ℕ) → Has rows x → Goes d alone x y → Has rows y
  pub first : (x : ℕ) → Has rows x → (f : ℕ) × Has firsts f × LeadsTo (Goes d alone) x f

pub no_rings : (d : ShellRows) (alone : List ℕ) → RingFacts d alone [] []
no_rings d alone = record { falls = tt; apart = tt; within = λ x m. absurd m; closed = λ x y m. absurd m; first = λ x m. absurd m }

pub apart_append : (xs ys : List ℕ) → NoRepeat xs → NoRepeat ys → ((x : ℕ) → Has xs x → Has ys x → ⊥) → NoRepeat (xs ++ ys)
apart_append [] ys a b c = b
apart_append (x ∷ xs) ys a b c = ((λ m. ⊎_elim (λ k. a.0 k) (λ k. c x (inl refl) k) (has_append xs ys x m)), apart_append xs ys a.1 b (λ y m k. c y (inr m) k))

pub has_front : (xs ys : List ℕ) (x : ℕ) → Has xs x → Has (xs ++ ys) x
has_front [] ys x m = absurd m
has_front (y ∷ xs) ys x (inl e) = inl e
has_front (y ∷ xs) ys x (inr m) = inr (has_front xs ys x m)

pub has_back : (xs ys : List ℕ) (x : ℕ) → Has ys x → Has (xs ++ ys) x
has_back [] ys x m = m
has_back (y ∷ xs) ys x m = inr (has_back xs ys x m)

pub ring_step : (d : ShellRows) (alone firsts rows : List ℕ) (r : ℕ) (rs : List ℕ) → StartApart d alone → RingFacts d alone firsts rows
    → AllByRecursion (Contains alone) (r ∷ rs) → AllZip (GoesOnTo d) (r ∷ rs) (next_of_each (r ∷ rs))
    → AllByRecursion (λ x. r < x) rs → IsAbove (first_of firsts) r → RingFacts d alone (r ∷ firsts) ((r ∷ rs) ++ rows)
ring_step d alone firsts rows r rs starts facts all goes least rises =
    let R : ℕ → ℕ → Type 0 = Goes d alone in
    let one : (x y z : ℕ) → R x y → R x z → y ≡ z = goes_one d alone starts in
    let trail : Trail R r rs r = ring_trail d alone r rs r all all.0 goes in
    let none : NoRepeat (r ∷ rs) = no_repeat R one r rs r trail (not_after r rs least) in
    let ring_closed : (x y : ℕ) → Has (r ∷ rs) x → R x y → Has (r ∷ rs) y =
    λ x y m g. (let k = next_on R r rs r trail x m in
    let same : k.0 ≡ y = one x k.0 y k.1 g in
    subst (Has (r ∷ rs)) same (⊎_elim (λ j. inr j) (λ e. inl (sym e)) k.2)) in
    let below : AllByRecursion (λ y. y < r) firsts = falls_more firsts r rises facts.falls in
    let disjoint : (x : ℕ) → Has (r ∷ rs) x → Has rows x → ⊥ =
    λ x m k. (let back = leads_on R r rs r trail x m in
    let here : Has rows r = keeps_steps R (Has rows) facts.closed back.0 x r back.1 k in
    let f = facts.first r here in
    let among : Has (r ∷ rs) f.0 = keeps_steps R (Has (r ∷ rs)) ring_closed f.2.0 r f.0 f.2.1 (inl refl) in
    let lt : f.0 < r = All-at (λ y. y < r) firsts below f.0 f.1 in
    omega (arith, lt, above_first r rs least f.0 among)) in
    record {
      falls = (below, facts.falls);
      apart = apart_append (r ∷ rs) rows none facts.apart disjoint;
      within = λ x m. ⊎_elim (λ k. All-at (Contains alone) (r ∷ rs) all x k) (λ k. facts.within x k) (has_append (r ∷ rs) rows x m);
      closed = λ x y m g. ⊎_elim (λ k. has_front (r ∷ rs) rows y (ring_closed x y k g)) (λ k. has_back (r ∷ rs) rows y (facts.closed x y k g))
          (has_append (r ∷ rs) rows x m);
      first = λ x m. ⊎_elim (λ k. (r, inl refl, leads_on R r rs r trail x k)) (λ k. (let f = facts.first x k in (f.0, inr f.1, f.2)))
          (has_append (r ∷ rs) rows x m);
    }

-- all lines that fit
pub rings_of : (s : SolidData) (alone : List ℕ) (lines : List OpenLine) → StartApart (shell_of s) alone → AllFit s lines
    → ((a : ℕ) → Contains (filter_map lone_in lines) a → Contains alone a)
    → RingFacts (shell_of s) alone (filter_map border_in lines) (flat_map border_rows lines)
unfolding progress_from_latest
rings_of s alone [] starts fit into = no_rings (shell_of s) alone
rings_of s alone (head ∷ lines) starts fit into = absurd fit.0.1
rings_of s alone (shell n a b c d e ∷ lines) starts fit into = rings_of s alone lines starts fit.1 into
rings_of s alone (edge a b ∷ lines) starts fit into = rings_of s alone lines starts fit.1 into
rings_of s alone (lone a ∷ lines) starts fit into =
    rings_of s alone lines starts fit.1
    (λ x c. into x (Contains-from_Has (a ∷ filter_map lone_in lines) x (inr (Has-from_Contains (filter_map lone_in lines) x c))))
rings_of s alone (cycle rs ∷ lines) starts fit into = rings_of s alone lines starts fit.1 into
rings_of s alone (path rs ∷ lines) starts fit into = rings_of s alone lines starts fit.1 into
rings_of s alone (point a b ∷ lines) starts fit into = rings_of s alone lines starts fit.1 into
rings_of s alone (reach a ∷ lines) starts fit into = rings_of s alone lines starts fit.1 into
rings_of s alone (border [] ∷ lines) starts fit into = absurd fit.0.1
rings_of s alone (border (r ∷ rs) ∷ lines) starts fit into =
    let h = fit.0.1.1 in
    ring_step (shell_of s) alone (filter_map border_in lines) (flat_map border_rows lines) r rs starts (rings_of s alone lines starts fit.1 into)
    (All-from (Contains alone) (r ∷ rs) (λ x m. into x (All-at (Contains (filter_map lone_in lines)) (r ∷ rs) h.lone x m))) h.goes_on h.least h.rises
rings_of s alone (end ∷ lines) starts fit into = rings_of s alone lines starts fit.1 into

-- By numbers from 0.

abbrev before : ℕ → ℕ
before n = n - 1

unnamed : (d : ShellRows) (a : ℕ) (row : Row) → row_named d a ≡ Some row → slice_get d.rows (a - 1) ≡ Some row
unnamed d zero row h = absurd (none-some row h)
unnamed d (suc k) row h = let e : suc k - 1 ≡ k = omega arith in ap (slice_get d.rows) e ∙ h

border_unnamed : (d : ShellRows) (alone : List ℕ) → AreBorder d alone → (a : ℕ) → Contains alone a → IsBorder d (a - 1)
border_unnamed d alone borders a c = let b = borders a c in (b.0, unnamed d a b.0 b.1, b.2)

pub alone_above : (d : ShellRows) (alone : List ℕ) → AreBorder d alone → (a : ℕ) → Contains alone a → 0 < a
alone_above d alone borders zero c = absurd (let b = borders zero c in none-some b.0 b.1)
alone_above d alone borders (suc a) c = omega arith

goes_unnamed : (d : ShellRows) (a b : ℕ) → GoesOnTo d a b → GoesOn d (a - 1) (b - 1)
goes_unnamed d a b (x, y, at_x, at_y, meet) = (x, y, unnamed d a x at_x, unnamed d b y at_y, meet)

zip_unnamed : (d : ShellRows) (r : ℕ) (rs : List ℕ) (z : ℕ) → AllZip (GoesOnTo d) (r ∷ rs) (rs ++ z ∷ [])
    → AllZip (GoesOn d) (map before (r ∷ rs)) (map before rs ++ before z ∷ [])
zip_unnamed d r [] z h = (goes_unnamed d r z h.0, tt)
zip_unnamed d r (w ∷ ws) z h = (goes_unnamed d r w h.0, zip_unnamed d w ws z h.1)

all_map : (P : ℕ → Type 0) (xs : List ℕ) → AllByRecursion (λ x. P (before x)) xs → AllByRecursion P (map before xs)
all_map P [] h = tt
all_map P (x ∷ xs) h = (h.0, all_map P xs h.1)

cycle_of_line : (d : ShellRows) (alone : List ℕ) (r : ℕ) (rs : List ℕ) → AreBorder d alone → AllByRecursion (Contains alone) (r ∷ rs)
    → AllZip (GoesOnTo d) (r ∷ rs) (next_of_each (r ∷ rs)) → AllByRecursion (λ x. r < x) rs → IsBorderCycle d (r - 1) (map before rs)
cycle_of_line d alone r rs borders all goes least = record {
  border = all_map (IsBorder d) (r ∷ rs)
      (All-from (λ x. IsBorder d (before x)) (r ∷ rs) (λ x m. border_unnamed d alone borders x (All-at (Contains alone) (r ∷ rs) all x m)));
  goes_on = zip_unnamed d r rs r goes;
  least = all_map (λ x. r - 1 < x) rs
      (All-from (λ x. r - 1 < before x) rs
      (λ x m. (let lt : r < x = All-at (λ y. r < y) rs least x m in let pos = alone_above d alone borders r all.0 in omega (arith, lt, pos))));
}

-- each border line that fits is a cycle
border_line_cycle : (s : SolidData) (alone : List ℕ) (lines : List OpenLine) → AreBorder (shell_of s) alone → AllFit s lines
    → ((a : ℕ) → Contains (filter_map lone_in lines) a → Contains alone a) → (rs : List ℕ) → Has lines (border rs)
    → IsBorderCycleOf (shell_of s) (map before rs)
unfolding progress_from_latest
border_line_cycle s alone [] borders fit into rs m = absurd m
border_line_cycle s alone (l ∷ lines) borders fit into rs (inr m) = border_line_cycle s alone lines borders fit.1 (λ a c. into a (more l a c)) rs m
  where
    more : (k : OpenLine) (a : ℕ) → Contains (filter_map lone_in lines) a → Contains (filter_map lone_in (k ∷ lines)) a
    more (lone b) a c = Contains-from_Has (b ∷ filter_map lone_in lines) a (inr (Has-from_Contains (filter_map lone_in lines) a c))
    more head a c = c
    more (shell n b c d e f) a g = g
    more (edge b d) a c = c
    more (cycle qs) a c = c
    more (path qs) a c = c
    more (point b d) a c = c
    more (reach b) a c = c
    more (border qs) a c = c
    more end a c = c
border_line_cycle s alone (l ∷ lines) borders fit into rs (inl e) = at_line rs (subst (λ k. FitsLine s (progress_from_latest s lines) k) e fit.0)
    (λ a c. into a (subst (λ k. Contains (filter_map lone_in (k ∷ lines)) a) (sym e) c))
  where
    at_line : (qs : List ℕ) → FitsLine s (progress_from_latest s lines) (border qs) → ((a : ℕ) → Contains (filter_map lone_in lines) a → Contains alone a)
        → IsBorderCycleOf (shell_of s) (map before qs)
    at_line [] fits in_all = absurd fits.1
    at_line (r ∷ qs) fits in_all =
        let h = fits.1.1 in
        cycle_of_line (shell_of s) alone r qs borders
        (All-from (Contains alone) (r ∷ qs) (λ x m. in_all x (All-at (Contains (filter_map lone_in lines)) (r ∷ qs) h.lone x m))) h.goes_on h.least

-- The lines in order, and the latest first.

abbrev pub turned : List OpenLine → List OpenLine → List OpenLine
turned [] before = before
turned (l ∷ ls) before = turned ls (l ∷ before)

pub fit_turned : (s : SolidData) (before : List OpenLine) (texts : List (List ℕ)) (lines : List OpenLine) → AllFit s before → IsLegalAfter s before texts
    → AllZip IsSpelled texts lines → AllFit s (turned lines before) × ((progress_from_latest s (turned lines before)).ended ≡ true)
fit_turned s before [] [] fit legal zip = (fit, legal)
fit_turned s before [] (l ∷ lines) fit legal zip = absurd zip
fit_turned s before (t ∷ texts) [] fit legal zip = absurd zip
fit_turned s before (t ∷ texts) (l ∷ lines) fit (m, is_m, fits, more) zip =
    let same : m ≡ l = line_one t m l is_m zip.0 in
    fit_turned s (l ∷ before) texts lines (subst (FitsLine s (progress_from_latest s before)) same fits, fit)
    (subst (λ k. IsLegalAfter s (k ∷ before) texts) same more) zip.1

has_turned : (lines before : List OpenLine) (x : OpenLine) → Has lines x ⊎ Has before x → Has (turned lines before) x
has_turned [] before x (inl m) = absurd m
has_turned [] before x (inr m) = m
has_turned (l ∷ lines) before x (inl (inl e)) = has_turned lines (l ∷ before) x (inr (inl e))
has_turned (l ∷ lines) before x (inl (inr m)) = has_turned lines (l ∷ before) x (inl m)
has_turned (l ∷ lines) before x (inr m) = has_turned lines (l ∷ before) x (inr (inr m))

total_append : (f : ℕ → ℕ) (xs ys : List ℕ) → total f (xs ++ ys) ≡ total f xs + total f ys
total_append f [] ys = omega arith
total_append f (x ∷ xs) ys = omega (arith, total_append f xs ys)

total_turned : (f : ℕ → ℕ) (lines before : List OpenLine) → total f (flat_map border_rows (turned lines before)) ≡ total f (flat_map border_rows lines)
    + total f (flat_map border_rows before)
total_turned f [] before = omega arith
total_turned f (l ∷ lines) before =
    omega (
      arith,
      total_turned f lines (l ∷ before),
      total_append f (border_rows l) (flat_map border_rows before),
      total_append f (border_rows l)
          (flat_map border_rows lines),
    )

-- how often a row is listed, by its number from 0 and from 1
marked_before : (r x : ℕ) → 0 < x → mark r (before x) ≡ mark (suc r) x
marked_before r zero pos = absurd (omega (arith, pos))
marked_before r (suc k) pos =
    let e : suc k - 1 ≡ k = omega arith in
    ⊎_elim (λ y. mark-same r (suc k - 1) (e ∙ sym y.1) ∙ sym (mark-same (suc r) (suc k) (ap suc (sym y.1))))
    (λ n. mark-other r (suc k - 1) (λ same. n.1 (sym (sym e ∙ same))) ∙ sym (mark-other (suc r) (suc k) (λ same. n.1 (omega (arith, same)))))
    (eqb_tells r k)

total_before : (r : ℕ) (xs : List ℕ) → ((x : ℕ) → Has xs x → 0 < x) → total (mark r) (map before xs) ≡ total (mark (suc r)) xs
total_before r [] pos = refl
total_before r (x ∷ xs) pos = let here = marked_before r x (pos x (inl refl)) in omega (arith, here, total_before r xs (λ y m. pos y (inr m)))

total_cycles : (r : ℕ) (lines : List OpenLine) → ((x : ℕ) → Has (flat_map border_rows lines) x → 0 < x)
    → total (mark r) (flat_map rows_in (filter_map cycle_in lines)) ≡ total (mark (suc r)) (flat_map border_rows lines)
total_cycles r [] pos = refl
total_cycles r (head ∷ lines) pos = total_cycles r lines pos
total_cycles r (shell n a b c d e ∷ lines) pos = total_cycles r lines pos
total_cycles r (edge a b ∷ lines) pos = total_cycles r lines pos
total_cycles r (lone a ∷ lines) pos = total_cycles r lines pos
total_cycles r (cycle rs ∷ lines) pos = total_cycles r lines pos
total_cycles r (path rs ∷ lines) pos = total_cycles r lines pos
total_cycles r (point a b ∷ lines) pos = total_cycles r lines pos
total_cycles r (reach a ∷ lines) pos = total_cycles r lines pos
total_cycles r (border rs ∷ lines) pos =
    omega (
      arith,
      total_append (mark r) (map before rs) (flat_map rows_in (filter_map cycle_in lines)),
      total_append (mark (suc r)) rs (flat_map border_rows lines),
      total_before r rs (λ x m. pos x (has_front rs (flat_map border_rows lines) x m)),
      total_cycles r lines (λ x m. pos x (has_back rs (flat_map border_rows lines) x m)),
    )
total_cycles r (end ∷ lines) pos = total_cycles r lines pos

each_cycle : (d : ShellRows) (lines : List OpenLine) → ((rs : List ℕ) → Has lines (border rs) → IsBorderCycleOf d (map before rs))
    → AllByRecursion (IsBorderCycleOf d) (filter_map cycle_in lines)
each_cycle d [] h = tt
each_cycle d (head ∷ lines) h = each_cycle d lines (λ rs m. h rs (inr m))
each_cycle d (shell n a b c e f ∷ lines) h = each_cycle d lines (λ rs m. h rs (inr m))
each_cycle d (edge a b ∷ lines) h = each_cycle d lines (λ rs m. h rs (inr m))
each_cycle d (lone a ∷ lines) h = each_cycle d lines (λ rs m. h rs (inr m))
each_cycle d (cycle qs ∷ lines) h = each_cycle d lines (λ rs m. h rs (inr m))
each_cycle d (path qs ∷ lines) h = each_cycle d lines (λ rs m. h rs (inr m))
each_cycle d (point a b ∷ lines) h = each_cycle d lines (λ rs m. h rs (inr m))
each_cycle d (reach a ∷ lines) h = each_cycle d lines (λ rs m. h rs (inr m))
each_cycle d (border qs ∷ lines) h = (h qs (inl refl), each_cycle d lines (λ rs m. h rs (inr m)))
each_cycle d (end ∷ lines) h = each_cycle d lines (λ rs m. h rs (inr m))

-- Lines but END that fit, with nothing due, hold each border row once.
borders_of : (s : SolidData) (f : FitsAll s) (lines : List OpenLine) → AreGoodRows (shell_of s) → turned lines [] ≡ end ∷ f.lines
    → AreAllBorders (shell_of s) (filter_map cycle_in lines)
unfolding progress_from_latest
borders_of s f lines good is_all =
    let d : ShellRows = shell_of s in
    let alone : List ℕ = filter_map lone_in f.lines in
    let rows : List ℕ = flat_map border_rows f.lines in
    let listed = facts_listed s f.lines d f.facts f.done.no_edge in
    let borders : AreBorder d alone = λ a c. lone_border d (filter_map mates_in f.lines) alone (filter_map (edge_in d) f.lines) (number_of is_edge f.lines) a
    listed c in
    let starts : StartApart d alone = start_apart d alone good (proper_of s f).fanned borders in
    let rings : RingFacts d alone (filter_map border_in f.lines) rows = rings_of s alone f.lines starts f.fit (λ a c. c) in
    let whole : length rows ≡ length alone = f.done.all_bordered in
    let among : (l : OpenLine) → Has lines l → Has (end ∷ f.lines) l = λ l m. subst (λ ls. Has ls l) is_all (has_turned lines [] l (inl m)) in
    let above : (x : ℕ) → Has (flat_map border_rows lines) x → 0 < x =
    λ x m. (let from = from_flat_map border_rows lines x m in
    alone_above d alone borders x (rings.within x (has_flat_map border_rows (end ∷ f.lines) from.0 x (among from.0 from.1) from.2))) in
    record {
      each = each_cycle d lines
          (λ rs m. ⊎_elim (λ e. absurd (end_border rs e)) (λ k. border_line_cycle s alone f.lines borders f.fit (λ a c. c) rs k) (among (border rs) m));
      once = λ r is_border.
          let there : Has alone (suc r) =
          Has-from_Contains alone (suc r)
          (border_listed d (filter_map mates_in f.lines) alone (filter_map (edge_in d) f.lines) (number_of is_edge f.lines) good listed r is_border) in
          let here : Has rows (suc r) = covers rows alone rings.apart (λ x m. Has-from_Contains alone x (rings.within x m)) (omega (arith, whole)) (suc r)
          there in
          let one : total (mark (suc r)) rows ≡ 1 = marks-one (suc r) rows rings.apart here in
          let all : total (mark (suc r)) (flat_map border_rows (turned lines [])) ≡ 1 = ap (λ ls. total (mark (suc r)) (flat_map border_rows ls)) is_all ∙ one
          in
          let cycles : List ℕ = flat_map rows_in (filter_map cycle_in lines) in
          let counts : count_by (λ x. r == x) cycles ≡ total (mark r) cycles = count_by-total (λ x. r == x) cycles in
          omega (arith, counts, total_cycles r lines above, total_turned (mark (suc r)) lines [], all);
    }
  where
    is_end : OpenLine → ℕ
    is_end end = 1
    is_end _ = 0

    end_border : (rs : List ℕ) → end ≡ border rs → ⊥
    end_border rs e = let k : ◌≡◌ {A = ℕ} 1 0 = ap is_end e in omega (arith, k)

pub borders_are_cycles : BordersAreCycles
unfolding IsOpenLegal
borders_are_cycles s texts lines numbered open_shell joined legal zip =
    let good = good_shell s open_shell.shell numbered open_shell.alone joined in
    let t = fit_turned s [] texts lines tt legal zip in
    let f = fits_all s good (turned lines []) t.0 t.1 in
    borders_of s f.0 lines good f.1
