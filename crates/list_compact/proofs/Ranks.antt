-- The ranks of used items.
use Rattle.std.specs.Prelude.{◌≡◌, ◌⊎◌, ℕ, zero, suc, ◌+◌, ◌-◌, ◌<◌, ◌≤◌, Bool, true, false, if◌then◌else◌, List, [], ◌∷◌, length, Some, slice_get}
use Rattle.std.proofs.Common.{refl, sym, ◌∙◌, ap, arith, inl, inr}
use Rattle.std.proofs.lemmas.Bool.{cond-true, cases_order}
use Rattle.std.proofs.lemmas.Option.{none-some, slice_get_within}
use Rattle.solid_data.proofs.Members.{Has}
use Rattle.list_compact.specs.Used.{used_from, count_from, rank}

-- what stands at a used place stands among the used ones, behind those before it
pub get_used : {X : Type 0} (used : ℕ → Bool) (k i : ℕ) (xs : List X) (x : X) → used (k + i) ≡ true → slice_get xs i ≡ Some x
    → slice_get (used_from used k xs) (count_from used k i) ≡ Some x
get_used used k i [] x u e = absurd (none-some x e)
get_used used k zero (y ∷ xs) x u e =
    let here : k ≡ k + 0 = omega arith in
    ap (λ b. slice_get (if b then y ∷ used_from used (k + 1) xs else used_from used (k + 1) xs) 0) (ap used here ∙ u) ∙ e
get_used {X} used k (suc i) (y ∷ xs) x u e =
    let on : k + 1 + i ≡ k + suc i = omega arith in
    by_test (used k) (get_used used (k + 1) i xs x (ap used on ∙ u) e)
  where
    by_test : (b : Bool) → slice_get (used_from used (k + 1) xs) (count_from used (k + 1) i) ≡ Some x
        → slice_get (if b then y ∷ used_from used (k + 1) xs else used_from used (k + 1) xs)
        (if b then suc (count_from used (k + 1) i) else count_from used (k + 1) i) ≡ Some x
    by_test true h = h
    by_test false h = h

-- one item more
pub count_next : (used : ℕ → Bool) (k n : ℕ) → count_from used k (suc n) ≡ (if used (k + n) then suc (count_from used k n) else count_from used k n)
count_next used k zero = let here : k ≡ k + 0 = omega arith in ap (λ j. if used j then suc 0 else 0) here
count_next used k (suc n) =
    let on : k + 1 + n ≡ k + suc n = omega arith in
    ap (λ c. if used k then suc c else c) (count_next used (k + 1) n)
    ∙ (by_tests (used k) (used (k + 1 + n)) (count_from used (k + 1) n)
    ∙ ap (λ j. if used j then suc (if used k then suc (count_from used (k + 1) n) else count_from used (k + 1) n) else
    (if used k then suc (count_from used (k + 1) n) else count_from used (k + 1) n)) on)
  where
    by_tests : (b d : Bool) (c : ℕ) → (if b then suc (if d then suc c else c) else (if d then suc c else c))
        ≡ (if d then suc (if b then suc c else c) else (if b then suc c else c))
    by_tests true true c = refl
    by_tests true false c = refl
    by_tests false true c = refl
    by_tests false false c = refl

pub count_more : (used : ℕ → Bool) (k n m : ℕ) → n ≤ m → count_from used k n ≤ count_from used k m
count_more used k zero m le = omega arith
count_more used k (suc n) zero le = absurd (omega (arith, le))
count_more used k (suc n) (suc m) le = by_test (used k) (count_more used (k + 1) n m (omega (arith, le)))
  where
    by_test : (b : Bool) → count_from used (k + 1) n ≤ count_from used (k + 1) m
        → (if b then suc (count_from used (k + 1) n) else count_from used (k + 1) n)
        ≤ (if b then suc (count_from used (k + 1) m) else count_from used (k + 1) m)
    by_test true h = omega (arith, h)
    by_test false h = h

module _ (used : ℕ → Bool) where
  -- a used item has the rank behind that of the items before it
  pub rank_used : (j : ℕ) → 1 ≤ j → used j ≡ true → rank used j ≡ suc (rank used (j - 1))
  rank_used zero low u = absurd (omega (arith, low))
  rank_used (suc i) low u =
      let one : suc i - 1 ≡ i = omega arith in
      let here : 1 + i ≡ suc i = omega arith in
      count_next used 1 i
      ∙ (ap (λ j. if used j then suc (count_from used 1 i) else count_from used 1 i) here
      ∙ (cond-true (used (suc i)) (suc (count_from used 1 i)) (count_from used 1 i) u
      ∙ ap (λ m. suc (count_from used 1 m)) (sym one)))

  pub item_ranked : {X : Type 0} (j : ℕ) (xs : List X) (x : X) → 1 ≤ j → used j ≡ true → slice_get xs (j - 1) ≡ Some x
      → slice_get (used_from used 1 xs) (rank used j - 1) ≡ Some x
  item_ranked j xs x low u e =
      let at : rank used j - 1 ≡ rank used (j - 1) = omega (arith, rank_used j low u) in
      let here : j ≡ 1 + (j - 1) = omega (arith, low) in
      ap (slice_get (used_from used 1 xs)) at ∙ get_used used 1 (j - 1) xs x (sym (ap used here) ∙ u) e

  pub rank_low : (j : ℕ) → 1 ≤ j → used j ≡ true → 1 ≤ rank used j
  rank_low j low u = omega (arith, rank_used j low u)

  pub rank_within : {X : Type 0} (j : ℕ) (xs : List X) (x : X) → 1 ≤ j → used j ≡ true → slice_get xs (j - 1) ≡ Some x
      → rank used j ≤ length (used_from used 1 xs)
  rank_within j xs x low u e = omega (arith, rank_used j low u, slice_get_within (used_from used 1 xs) (rank used j - 1) x (item_ranked j xs x low u e))

  rank_less : (j k : ℕ) → 1 ≤ k → used k ≡ true → j < k → rank used j < rank used k
  rank_less j k low u lt = omega (arith, rank_used k low u, count_more used 1 j (k - 1) (omega (arith, lt)))

  -- used items have different ranks
  pub rank_apart : (j k : ℕ) → 1 ≤ j → 1 ≤ k → used j ≡ true → used k ≡ true → rank used j ≡ rank used k → j ≡ k
  rank_apart j k jl kl ju ku e = by_order (cases_order j k)
    where
      by_order : (j ≡ k) ⊎ ((j < k) ⊎ (k < j)) → j ≡ k
      by_order (inl same) = same
      by_order (inr (inl lt)) = absurd (omega (arith, e, rank_less j k kl ku lt))
      by_order (inr (inr gt)) = absurd (omega (arith, e, rank_less k j jl ju gt))

pub used_few : {X : Type 0} (used : ℕ → Bool) (k : ℕ) (xs : List X) → length (used_from used k xs) ≤ length xs
used_few used k [] = omega arith
used_few {X} used k (x ∷ xs) = by_test (used k) (used_few used (k + 1) xs)
  where
    by_test : (b : Bool) → length (used_from used (k + 1) xs) ≤ length xs → length (if b then x ∷ used_from used (k + 1) xs else used_from used (k + 1) xs)
        ≤ suc (length xs)
    by_test true h = omega (arith, h)
    by_test false h = omega (arith, h)

-- a used one is one of the items
pub from_used : {X : Type 0} (used : ℕ → Bool) (k : ℕ) (xs : List X) (x : X) → Has (used_from used k xs) x → Has xs x
from_used used k [] x h = h
from_used {X} used k (y ∷ xs) x h = by_test (used k) h (λ m. from_used used (k + 1) xs x m)
  where
    by_test : (b : Bool) → Has (if b then y ∷ used_from used (k + 1) xs else used_from used (k + 1) xs) x → (Has (used_from used (k + 1) xs) x → Has xs x)
        → Has (y ∷ xs) x
    by_test true (inl e) on = inl e
    by_test true (inr m) on = inr (on m)
    by_test false m on = inr (on m)
