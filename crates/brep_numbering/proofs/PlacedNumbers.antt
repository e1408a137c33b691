-- Numbers that are found by their positions.
use Rattle.std.specs.Prelude.{◌↔◌, ℤ, false, true, IsTrue, nat_eq, ◌≡◌, ◌≢◌, ◌<◌, ◌≤◌, ◌⊎◌, ℕ, pos, List, [], ◌∷◌, ◌++◌, map, length, slice_index, Contains}
use Rattle.std.proofs.Common.{sym, ◌∙◌, ap, subst, inl, inr, arith, length-append, get_or}
use Rattle.std.proofs.lemmas.List.{length-map, get_or-map, get_or_append_left, get_or_at}
use Rattle.std.proofs.lemmas.Bool.{cases_lt, eqb-true, eq-eqb}
use Rattle.brep_numbering.specs.Placed.{ArePlaced}

-- a number among the others, with its place
pub among_placed : (ns : List ℕ) (n : ℕ) → Contains (map pos ns) (pos n) → (p : ℕ) × (p < length ns) × (slice_index ns p ≡ n)
among_placed ns n h =
    let within : h.0 < length ns = omega (arith, h.1, length-map ns pos) in
    let same : pos (get_or ns h.0 0) ≡ pos n = sym (get_or-map pos ns h.0 0 (pos n) within) ∙ h.2 in
    (h.0, within, pos_inj (get_or ns h.0 0) n same)
  where
    pos_inj : (a b : ℕ) → pos a ≡ pos b → a ≡ b
    pos_inj a b e = cc

pub placed_contains : (ns : List ℕ) (n p : ℕ) → p < length ns → slice_index ns p ≡ n → Contains (map pos ns) (pos n)
placed_contains ns n p within is =
    let inside : p < length (map pos ns) = omega (arith, within, length-map ns pos) in
    (p, inside, get_or-map pos ns p 0 (pos n) within ∙ ap pos is)

-- positions that differ at a number that isn't there
pub still_placed : (old new ns : List ℕ) (n : ℕ) → ArePlaced old ns → ¬ Contains (map pos ns) (pos n)
    → ((m : ℕ) → m ≢ n → slice_index new m ≡ slice_index old m) → ArePlaced new ns
still_placed old new ns n placed absent others p within =
    others (slice_index ns p) (λ is. absent (placed_contains ns n p within is)) ∙ placed p within

-- one more number
pub placed_more : (old new ns : List ℕ) (n : ℕ) → ArePlaced old ns → ¬ Contains (map pos ns) (pos n) → ((m : ℕ) → m ≢ n → slice_index new m ≡ slice_index old m)
    → slice_index new n ≡ length ns → ArePlaced new (ns ++ n ∷ [])
placed_more old new ns n placed absent others here p within = by_case (cases_lt p (length ns))
  where
    by_case : (p < length ns) ⊎ (length ns ≤ p) → slice_index new (slice_index (ns ++ n ∷ []) p) ≡ p
    by_case (inl before) = ap (slice_index new) (get_or_append_left ns (n ∷ []) 0 p before) ∙ still_placed old new ns n placed absent others p before
    by_case (inr past) =
        let at : p ≡ length ns = omega (arith, past, within, length-append ns (n ∷ [])) in
        ap (slice_index new) (get_or_at ns n [] 0 p (sym at)) ∙ (here ∙ sym at)

-- whether the number that stands at its position is the one that was looked up
pub has_at : (ps ns : List ℕ) (zs : List ℤ) → map pos ns ≡ zs → ArePlaced ps ns → (n p : ℕ) → p ≡ slice_index ps n → (seen : List ℕ) → seen ≡ ns → (x : ℕ)
    → p < length seen → ((d : ℕ) → x ≡ get_or seen p d)
    → IsTrue (nat_eq x n) ↔ Contains zs (pos n)
has_at ps ns zs are placed n p at seen same x within is = (
  (λ t. subst (λ l. Contains l (pos n)) are (placed_contains ns n p (subst (λ l. p < length l) same within) (sym here ∙ eqb-true x n t))),
  (λ h. back (among_placed ns n (subst (λ l. Contains l (pos n)) (sym are) h))),
)
  where
    here : x ≡ slice_index ns p
    here = is 0 ∙ ap (λ l. get_or l p 0) same

    back : (k : ℕ) × (k < length ns) × (slice_index ns k ≡ n) → IsTrue (nat_eq x n)
    back h =
        let place : p ≡ h.0 = at ∙ (ap (slice_index ps) (sym h.2) ∙ placed h.0 h.1) in
        eq-eqb x n (here ∙ (ap (slice_index ns) place ∙ h.2))

-- where there is none, the number isn't there
pub none_at : (ps ns : List ℕ) (zs : List ℤ) → map pos ns ≡ zs → ArePlaced ps ns → (n p : ℕ) → p ≡ slice_index ps n → (seen : List ℕ) → seen ≡ ns
    → length seen ≤ p → IsTrue false ↔ Contains zs (pos n)
none_at ps ns zs are placed n p at seen same past = (
  (λ t. absurd (let g : false ≡ true = t in cc)),
  (λ h. absurd (beyond (among_placed ns n (subst (λ l. Contains l (pos n)) (sym are) h)))),
)
  where
    beyond : (k : ℕ) × (k < length ns) × (slice_index ns k ≡ n) → ⊥
    beyond h =
        let place : p ≡ h.0 = at ∙ (ap (slice_index ps) (sym h.2) ∙ placed h.0 h.1) in
        let end : length seen ≡ length ns = ap (λ (l : List ℕ). length l) same in
        omega (arith, past, end, place, h.1)

pub not_there : (ns : List ℕ) (zs : List ℤ) → map pos ns ≡ zs → (n : ℕ) → (Contains zs (pos n) → IsTrue false) → ¬ Contains (map pos ns) (pos n)
not_there ns zs are n absent h = absurd (let g : false ≡ true = absent (subst (λ l. Contains l (pos n)) are h) in cc)
