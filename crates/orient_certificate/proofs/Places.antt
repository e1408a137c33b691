-- The rows of an edge, and the partner of each.
use Rattle.std.specs.Prelude.{◌≡◌, ◌≢◌, ◌<◌, ◌≤◌, ◌+◌, ◌-◌, ◌==◌, ◌⊎◌, ℕ, zero, suc, Bool, true, false, cond, List, [], ◌∷◌, ◌++◌, length, take, slice_get}
use Rattle.std.specs.Prelude.{slice_set, Some, None, if◌then◌else◌}
use Rattle.std.specs.List.{AllByRecursion}
use Rattle.std.proofs.Common.{refl, sym, ◌∙◌, ap, subst, arith, inl, inr, get_or, length-append}
use Rattle.std.proofs.lemmas.Bool.{eq-eqb}
use Rattle.std.proofs.lemmas.Bool.Decides.{eqb_tells}
use Rattle.std.proofs.lemmas.List.{take_more, append-nil, length-take-le}
use Rattle.std.proofs.lemmas.Option.{same_Some, slice_get_within, get_or_from_slice_get}
use Rattle.solid_data.proofs.Members.{Has, NoRepeat, total, count_by-total, All-at, has_get}
use Rattle.solid_data.specs.declared.spanning.Span.{Span}
use Rattle.solid_data.specs.Ranges.{IsWithin}
use Rattle.edge_uses.specs.declared.row.Row.{Row}
use Rattle.edge_uses.specs.ShellRows.{ShellRows}
use Rattle.edge_uses.proofs.Tallies.{set_same, set_other}
use Rattle.edge_uses.proofs.Turn.{edge_id}
use Rattle.orient_certificate.specs.declared.rows_by_edge.Seen.{Seen}
use Rattle.orient_certificate.specs.Partners.{HasTwoRows, AllHaveTwoRows, ArePartners}
use Rattle.orient_certificate.specs.RowsByEdge.{places_of, last_of, summary, once_more, seen_of, AreRowsByEdge}

pub length-places : (g n : ℕ) (rows : List Row) → length (places_of g n rows) ≡ total (λ (r : Row). cond (r.edge.0 == g) 1 0) rows
length-places g n [] = refl
length-places g n (r ∷ rows) = by_test (r.edge.0 == g) (length-places g (n + 1) rows)
  where
    by_test : (b : Bool) → length (places_of g (n + 1) rows) ≡ total (λ (x : Row). cond (x.edge.0 == g) 1 0) rows
        → length (cond b (n ∷ places_of g (n + 1) rows) (places_of g (n + 1) rows)) ≡ cond b 1 0 + total (λ (x : Row). cond (x.edge.0 == g) 1 0) rows
    by_test true h = omega (arith, h)
    by_test false h = omega (arith, h)

pub places_have : (g n k : ℕ) (rows : List Row) (r : Row) → slice_get rows k ≡ Some r → r.edge.0 ≡ g → Has (places_of g n rows) (n + k)
places_have g n k [] r at e = absurd (let h : None ≡ Some r = at in cc)
places_have g n zero (x ∷ rows) r at e =
    let same : (x.edge.0 == g) ≡ true = eq-eqb x.edge.0 g (ap (λ (y : Row). y.edge.0) (same_Some x r at) ∙ e) in
    let here : n ≡ n + 0 = omega arith in
    subst (λ b. Has (cond b (n ∷ places_of g (n + 1) rows) (places_of g (n + 1) rows)) (n + 0)) (sym same) (inl here)
places_have g n (suc k) (x ∷ rows) r at e =
    let later : Has (places_of g (n + 1) rows) (n + 1 + k) = places_have g (n + 1) k rows r at e in
    let number : n + 1 + k ≡ n + suc k = omega arith in
    by_test (x.edge.0 == g) (subst (Has (places_of g (n + 1) rows)) number later)
  where
    by_test : (b : Bool) → Has (places_of g (n + 1) rows) (n + suc k) → Has (cond b (n ∷ places_of g (n + 1) rows) (places_of g (n + 1) rows)) (n + suc k)
    by_test true h = inr h
    by_test false h = h

pub places_above : (g n x : ℕ) (rows : List Row) → Has (places_of g n rows) x → n ≤ x
places_above g n x [] h = absurd h
places_above g n x (r ∷ rows) h = by_test (r.edge.0 == g) h (places_above g (n + 1) x rows)
  where
    by_test : (b : Bool) → Has (cond b (n ∷ places_of g (n + 1) rows) (places_of g (n + 1) rows)) x → (Has (places_of g (n + 1) rows) x → n + 1 ≤ x) → n ≤ x
    by_test true (inl e) later = omega (arith, e)
    by_test true (inr m) later = omega (arith, later m)
    by_test false m later = omega (arith, later m)

pub places_apart : (g n : ℕ) (rows : List Row) → NoRepeat (places_of g n rows)
places_apart g n [] = tt
places_apart g n (r ∷ rows) = by_test (r.edge.0 == g) (places_apart g (n + 1) rows)
  where
    by_test : (b : Bool) → NoRepeat (places_of g (n + 1) rows) → NoRepeat (cond b (n ∷ places_of g (n + 1) rows) (places_of g (n + 1) rows))
    by_test true h = ((λ m. let low : n + 1 ≤ n = places_above g (n + 1) n rows m in omega (arith, low)), h)
    by_test false h = h

pub places_are : (g n x : ℕ) (rows : List Row) → Has (places_of g n rows) x → (k : ℕ) × (r : Row) × (x ≡ n + k) × (slice_get rows k ≡ Some r) × (r.edge.0 ≡ g)
places_are g n x [] h = absurd h
places_are g n x (r ∷ rows) h =
    by_test (r.edge.0 == g) (eqb_tells r.edge.0 g) refl h (λ m. let t = places_are g (n + 1) x rows m in (suc t.0, t.1, omega (arith, t.2), t.3, t.4))
  where
    by_test : (b : Bool) → (((r.edge.0 == g) ≡ true) × (r.edge.0 ≡ g)) ⊎ (((r.edge.0 == g) ≡ false) × (r.edge.0 ≢ g)) → (r.edge.0 == g) ≡ b
        → Has (cond b (n ∷ places_of g (n + 1) rows) (places_of g (n + 1) rows)) x
        → (Has (places_of g (n + 1) rows) x → (k : ℕ) × (q : Row) × (x ≡ n + k) × (slice_get (r ∷ rows) k ≡ Some q) × (q.edge.0 ≡ g))
        → (k : ℕ) × (q : Row) × (x ≡ n + k) × (slice_get (r ∷ rows) k ≡ Some q) × (q.edge.0 ≡ g)
    by_test true (inl y) e (inl m) later = (zero, r, omega (arith, m), refl, y.1)
    by_test true (inr z) e (inl m) later = absurd (let f : true ≡ false = sym e ∙ z.0 in cc)
    by_test true w e (inr m) later = later m
    by_test false w e m later = later m

-- a list of two, and the other one of them
pub two_cases : (xs : List ℕ) (r m k : ℕ) → length xs ≡ 2 → Has xs r → Has xs m → Has xs k → r ≢ m → r ≢ k → m ≡ k
two_cases [] r m k two a b c p q = absurd a
two_cases (x ∷ []) r m k two a b c p q = absurd (omega (arith, two))
two_cases (x ∷ y ∷ z ∷ zs) r m k two a b c p q = absurd (omega (arith, two))
two_cases (x ∷ y ∷ []) r m k two (inl a) (inl b) c p q = absurd (p (sym a ∙ b))
two_cases (x ∷ y ∷ []) r m k two (inl a) (inr (inl b)) (inl c) p q = absurd (q (sym a ∙ c))
two_cases (x ∷ y ∷ []) r m k two (inl a) (inr (inl b)) (inr (inl c)) p q = sym b ∙ c
two_cases (x ∷ y ∷ []) r m k two (inr (inl a)) (inl b) (inl c) p q = sym b ∙ c
two_cases (x ∷ y ∷ []) r m k two (inr (inl a)) (inl b) (inr (inl c)) p q = absurd (q (sym a ∙ c))
two_cases (x ∷ y ∷ []) r m k two (inr (inl a)) (inr (inl b)) c p q = absurd (p (sym a ∙ b))
two_cases (x ∷ y ∷ []) r m k two (inl a) (inr (inr b)) c p q = absurd b
two_cases (x ∷ y ∷ []) r m k two (inl a) (inr (inl b)) (inr (inr c)) p q = absurd c
two_cases (x ∷ y ∷ []) r m k two (inr (inl a)) (inl b) (inr (inr c)) p q = absurd c
two_cases (x ∷ y ∷ []) r m k two (inr (inl a)) (inr (inr b)) c p q = absurd b
two_cases (x ∷ y ∷ []) r m k two (inr (inr a)) b c p q = absurd a

abbrev pub other_in : Seen → ℕ → ℕ
other_in seen r = if seen.first == r then seen.last else seen.first

pub other_of_two : (xs : List ℕ) (r : ℕ) → length xs ≡ 2 → NoRepeat xs → Has xs r → Has xs (other_in (summary xs) r) × (r ≢ other_in (summary xs) r)
other_of_two [] r two none h = absurd h
other_of_two (x ∷ []) r two none h = absurd (omega (arith, two))
other_of_two (x ∷ y ∷ z ∷ zs) r two none h = absurd (omega (arith, two))
other_of_two (x ∷ y ∷ []) r two none h = by_test (x == r) (eqb_tells x r) refl h
  where
    by_test : (b : Bool) → (((x == r) ≡ true) × (x ≡ r)) ⊎ (((x == r) ≡ false) × (x ≢ r)) → (x == r) ≡ b → Has (x ∷ y ∷ []) r
        → Has (x ∷ y ∷ []) (if b then y else x) × (r ≢ (if b then y else x))
    by_test true (inl t) e h = (inr (inl refl), λ k. none.0 (inl (sym (t.1 ∙ k))))
    by_test true (inr f) e h = absurd (let k : true ≡ false = sym e ∙ f.0 in cc)
    by_test false (inl t) e h = absurd (let k : true ≡ false = sym t.0 ∙ e in cc)
    by_test false (inr f) e h = (inl refl, λ k. f.1 (sym k))

pub two_places : (d : ShellRows) (g : ℕ) → HasTwoRows d g → length (places_of g 0 d.rows) ≡ 2
two_places d g two = length-places g 0 d.rows ∙ (sym (count_by-total (λ (r : Row). r.edge.0 == g) d.rows) ∙ two)

pub places_two : (d : ShellRows) (g : ℕ) → length (places_of g 0 d.rows) ≡ 2 → HasTwoRows d g
places_two d g two = count_by-total (λ (r : Row). r.edge.0 == g) d.rows ∙ (sym (length-places g 0 d.rows) ∙ two)

place_here : (rows : List Row) (k : ℕ) (r : Row) → slice_get rows k ≡ Some r → Has (places_of r.edge.0 0 rows) k
place_here rows k r at = subst (Has (places_of r.edge.0 0 rows)) (omega arith) (places_have r.edge.0 0 k rows r at refl)

pub same_row : (d : ShellRows) (r : ℕ) (a b : Row) → slice_get d.rows r ≡ Some a → slice_get d.rows r ≡ Some b → a ≡ b
same_row d r a b x y = same_Some a b (sym x ∙ y)

pub partners_back : (d : ShellRows) (r m : ℕ) → ArePartners d r m → ArePartners d m r
partners_back d r m p = record {
  row = p.partner;
  partner = p.row;
  at_r = p.at_m;
  at_m = p.at_r;
  one_edge = sym p.one_edge;
  apart = λ e. p.apart (sym e);
  two = subst (λ g. HasTwoRows d g) (ap (λ x. x.0) p.one_edge) p.two;
}

pub one_partner : (d : ShellRows) (r m k : ℕ) → ArePartners d r m → ArePartners d r k → m ≡ k
one_partner d r m k p q =
    let same : q.row ≡ p.row = same_row d r q.row p.row q.at_r p.at_r in
    let edge_m : p.partner.edge.0 ≡ p.row.edge.0 = ap (λ x. x.0) (sym p.one_edge) in
    let edge_k : q.partner.edge.0 ≡ p.row.edge.0 = ap (λ x. x.0) (sym q.one_edge) ∙ ap (λ (x : Row). x.edge.0) same in
    let zero_m : 0 + m ≡ m = omega arith in
    let zero_k : 0 + k ≡ k = omega arith in
    two_cases (places_of p.row.edge.0 0 d.rows) r m k (two_places d p.row.edge.0 p.two) (place_here d.rows r p.row p.at_r)
    (subst (Has (places_of p.row.edge.0 0 d.rows)) zero_m (places_have p.row.edge.0 0 m d.rows p.partner p.at_m edge_m))
    (subst (Has (places_of p.row.edge.0 0 d.rows)) zero_k (places_have p.row.edge.0 0 k d.rows q.partner q.at_m edge_k)) p.apart q.apart

-- the other place of a row's edge is its partner's
pub partner_made : (d : ShellRows) (r : ℕ) (row : Row) → slice_get d.rows r ≡ Some row → HasTwoRows d row.edge.0 → (m : ℕ)
    → m ≡ other_in (summary (places_of row.edge.0 0 d.rows)) r
    → (other : Row) × (slice_get d.rows m ≡ Some other) × (row.edge ≡ other.edge) × (r ≢ m)
partner_made d r row at two m is =
    let both = other_of_two (places_of row.edge.0 0 d.rows) r (two_places d row.edge.0 two) (places_apart row.edge.0 0 d.rows) (place_here d.rows r row at) in
    let there = places_are row.edge.0 0 m d.rows (subst (Has (places_of row.edge.0 0 d.rows)) (sym is) both.0) in
    let number : there.0 ≡ m = omega (arith, there.2) in
    (there.1, ap (slice_get d.rows) (sym number) ∙ there.3, edge_id row.edge there.1.edge (sym there.4), λ e. both.1 (e ∙ is))

-- each row has a partner
pub has_partner : (d : ShellRows) → AllHaveTwoRows d → AllByRecursion (λ (r : Row). Has d.edges r.edge.0) d.rows → (r : ℕ) (row : Row)
    → slice_get d.rows r ≡ Some row → (m : ℕ) × ArePartners d r m
has_partner d all known r row at =
    let two : HasTwoRows d row.edge.0 =
    All-at (HasTwoRows d) d.edges all row.edge.0 (All-at (λ (x : Row). Has d.edges x.edge.0) d.rows known row (has_get d.rows r row at)) in
    let m : ℕ = other_in (summary (places_of row.edge.0 0 d.rows)) r in
    let t = partner_made d r row at two m refl in
    (m, record { row = row; partner = t.0; at_r = at; at_m = t.1; one_edge = t.2; apart = t.3; two = two })

-- one row more
pub places_push : (g n : ℕ) (rows : List Row) (r : Row) → places_of g n (rows ++ r ∷ []) ≡ places_of g n rows
    ++ (if r.edge.0 == g then (n + length rows) ∷ [] else [])
places_push g n [] r = ap (λ k. if r.edge.0 == g then k ∷ [] else []) (omega arith)
places_push g n (x ∷ rows) r =
    let number : n + 1 + length rows ≡ n + suc (length rows) = omega arith in
    by_test (x.edge.0 == g)
    (subst (λ k. places_of g (n + 1) (rows ++ r ∷ []) ≡ places_of g (n + 1) rows ++ (if r.edge.0 == g then k ∷ [] else [])) number
    (places_push g (n + 1) rows r))
  where
    by_test : (b : Bool) → places_of g (n + 1) (rows ++ r ∷ []) ≡ places_of g (n + 1) rows ++ (if r.edge.0 == g then (n + suc (length rows)) ∷ [] else [])
        → (if b then n ∷ places_of g (n + 1) (rows ++ r ∷ []) else places_of g (n + 1) (rows ++ r ∷ []))
        ≡ (if b then n ∷ places_of g (n + 1) rows else places_of g (n + 1) rows) ++ (if r.edge.0 == g then (n + suc (length rows)) ∷ [] else [])
    by_test true h = ap (λ ks. n ∷ ks) h
    by_test false h = h

last_push : (x : ℕ) (ys : List ℕ) (z : ℕ) → last_of x (ys ++ z ∷ []) ≡ z
last_push x [] z = refl
last_push x (y ∷ ys) z = last_push y ys z

pub summary_push : (xs : List ℕ) (z : ℕ) → summary (xs ++ z ∷ []) ≡ once_more (summary xs) z
summary_push [] z = refl
summary_push (x ∷ xs) z =
    let counted : length (xs ++ z ∷ []) + 1 ≡ length xs + 1 + 1 = omega (arith, length-append xs (z ∷ [])) in
    let some : (length xs + 1 == 0) ≡ false = by_length (eqb_tells (length xs + 1) 0) in
    ap (λ n. record { count = n; first = x; last = last_of x (xs ++ z ∷ []) }) counted
    ∙ (ap (λ l. record { count = length xs + 1 + 1; first = x; last = l }) (last_push x xs z)
    ∙ ap (λ b. record { count = length xs + 1 + 1; first = (if b then z else x); last = z }) (sym some))
  where
    by_length : (((length xs + 1 == 0) ≡ true) × (length xs + 1 ≡ 0)) ⊎ (((length xs + 1 == 0) ≡ false) × (length xs + 1 ≢ 0)) → (length xs + 1 == 0) ≡ false
    by_length (inl t) = absurd (omega (arith, t.1))
    by_length (inr f) = f.0

pub count_places : (xs : List ℕ) → (summary xs).count ≡ length xs
count_places [] = refl
count_places (x ∷ xs) = omega arith

-- what has been seen of an edge, before row i
abbrev pub IsSeen : ShellRows → ℕ → ℕ → Seen → Type 0
IsSeen d i g seen = seen ≡ summary (places_of g 0 (take i d.rows))

pub seen_few : (d : ShellRows) (i g : ℕ) (seen : Seen) → IsSeen d i g seen → seen.count ≤ length (take i d.rows)
seen_few d i g seen h =
    omega (
      arith,
      ap (λ (x : Seen). x.count) h,
      count_places (places_of g 0 (take i d.rows)),
      length-places g 0 (take i d.rows),
      count_by-total
          (λ (r : Row). r.edge.0 == g) (take i d.rows),
      few (take i d.rows),
    )
  where
    few : (rows : List Row) → total (λ (r : Row). cond (r.edge.0 == g) 1 0) rows ≤ length rows
    few [] = omega arith
    few (r ∷ rows) = by_test (r.edge.0 == g) (few rows)
      where
        by_test : (b : Bool) → total (λ (x : Row). cond (x.edge.0 == g) 1 0) rows ≤ length rows
            → cond b 1 0 + total (λ (x : Row). cond (x.edge.0 == g) 1 0) rows ≤ suc (length rows)
        by_test true h = omega (arith, h)
        by_test false h = omega (arith, h)

taken : (d : ShellRows) (i g : ℕ) (row : Row) → slice_get d.rows i ≡ Some row → places_of g 0 (take (i + 1) d.rows) ≡ places_of g 0 (take i d.rows)
    ++ (if row.edge.0 == g then (0 + length (take i d.rows)) ∷ [] else [])
taken d i g row at =
    ap (places_of g 0) (take_more d.rows i row (slice_get_within d.rows i row at)
    ∙ ap (λ r. take i d.rows ++ r ∷ []) (get_or_from_slice_get d.rows i row row at))
    ∙ places_push g 0 (take i d.rows) row

pub seen_other : (d : ShellRows) (i g : ℕ) (seen : Seen) (row : Row) → slice_get d.rows i ≡ Some row → (row.edge.0 == g) ≡ false → IsSeen d i g seen
    → IsSeen d (i + 1) g seen
seen_other d i g seen row at other h =
    h ∙ ap summary (sym (taken d i g row at
    ∙ (ap (λ b. places_of g 0 (take i d.rows) ++ (if b then (0 + length (take i d.rows)) ∷ [] else [])) other
    ∙ append-nil (places_of g 0 (take i d.rows)))))

pub seen_this : (d : ShellRows) (i g : ℕ) (seen : Seen) (row : Row) → slice_get d.rows i ≡ Some row → row.edge.0 ≡ g → IsSeen d i g seen
    → IsSeen d (i + 1) g (once_more seen i)
seen_this d i g seen row at this h =
    let number : 0 + length (take i d.rows) ≡ i = omega (arith, length-take-le i d.rows (within (slice_get_within d.rows i row at))) in
    ap (λ s. once_more s i) h ∙ (sym (summary_push (places_of g 0 (take i d.rows)) i)
    ∙ ap summary (sym (taken d i g row at
    ∙ (ap (λ b. places_of g 0 (take i d.rows) ++ (if b then (0 + length (take i d.rows)) ∷ [] else [])) (eq-eqb row.edge.0 g this)
    ∙ ap (λ k. places_of g 0 (take i d.rows) ++ k ∷ []) number))))
  where
    within : i < length d.rows → i ≤ length d.rows
    within lt = omega (arith, lt)

-- one row is counted
pub tally_step : (d : ShellRows) (i : ℕ) (span : Span) (old : List Seen) (row : Row) (was new : Seen) → slice_get d.rows i ≡ Some row → length old ≡ span.count
    → IsWithin span row.edge.0
    → ((g : ℕ) → IsWithin span g → IsSeen d i g (seen_of span old g)) → was ≡ get_or old (row.edge.0 - span.least) (summary []) → new ≡ once_more was i
    → (g : ℕ) → IsWithin span g → IsSeen d (i + 1) g (seen_of span (slice_set old (row.edge.0 - span.least) new) g)
tally_step d i span old row was new at long low each is_was is_new g within = by_edge (eqb_tells row.edge.0 g)
  where
    k : ℕ
    k = row.edge.0 - span.least

    in_old : k < length old
    in_old = omega (arith, long, low.0, low.1)

    by_edge : (((row.edge.0 == g) ≡ true) × (row.edge.0 ≡ g)) ⊎ (((row.edge.0 == g) ≡ false) × (row.edge.0 ≢ g))
        → IsSeen d (i + 1) g (get_or (slice_set old k new) (g - span.least) (summary []))
    by_edge (inl y) =
        let place : k ≡ g - span.least = ap (λ n. n - span.least) y.1 in
        let before : IsSeen d i g was = is_was ∙ (ap (λ n. get_or old n (summary [])) place ∙ each g within) in
        let there : get_or (slice_set old k new) (g - span.least) (summary []) ≡ new = subst (λ n. get_or (slice_set old k new) n (summary []) ≡ new) place
        (set_same old k new (summary []) in_old) in
        (there ∙ is_new) ∙ seen_this d i g was row at y.1 before
    by_edge (inr n) =
        let apart : k ≢ g - span.least = λ h. n.1 (omega (arith, h, low.0, within.0)) in
        set_other old k (g - span.least) new (summary []) apart ∙ seen_other d i g (get_or old (g - span.least) (summary [])) row at n.0 (each g within)

-- the count of an edge tells whether it has two rows
pub count_told : (d : ShellRows) (span : Span) (by_edge : List Seen) (g : ℕ) → AreRowsByEdge d span by_edge → IsWithin span g
    → (seen_of span by_edge g).count ≡ 2
    → HasTwoRows d g
count_told d span by_edge g told within two =
    places_two d g (sym (count_places (places_of g 0 d.rows)) ∙ (ap (λ (s : Seen). s.count) (sym (told g within)) ∙ two))

pub count_ne : (d : ShellRows) (span : Span) (by_edge : List Seen) (g : ℕ) → AreRowsByEdge d span by_edge → IsWithin span g → (seen_of span by_edge g).count ≢ 2
    → HasTwoRows d g → ⊥
count_ne d span by_edge g told within ne two = ne (ap (λ (s : Seen). s.count) (told g within) ∙ (count_places (places_of g 0 d.rows) ∙ two_places d g two))
