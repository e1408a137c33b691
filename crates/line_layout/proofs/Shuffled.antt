-- Numbers found in their sorted list.
use Rattle.std.proofs.Common.{◌≡◌, ℕ, zero, suc, ◌+◌, ◌-◌, ◌<◌, ◌≤◌, inl, inr, ⊎_elim, Bool, true, false, List, [], ◌∷◌, length, get_or, drop, map, Result, Ok, Err, refl, sym, ap, ◌∙◌, arith, tests}
use Rattle.std.specs.Prelude.{◌==◌, ◌&&◌, ◌||◌, ◌⊎◌, IsPermutation, MatchResult}
use Rattle.std.specs.List.{list_all, list_any}
use Rattle.std.specs.List.Sorted.{IsBinarySearchResult, IsSorted}
use Rattle.std.specs.Ordering.{is_lt, nat_cmp}
use Rattle.std.specs.Result.{is_ok}
use Rattle.std.proofs.lemmas.Bool.{and_left, eq-eqb, ne_eqb}
use Rattle.std.proofs.lemmas.List.{drop_more}
use Rattle.std.proofs.lemmas.List.Elements.{All-from_get_or}
use Rattle.std.proofs.lemmas.List.Folds.{list_any_at, list_any_none}
use Rattle.std.proofs.lemmas.List.Sorted.{list_any-IsPermutation, searched}
use Rattle.line_layout.specs.declared.strays.Stray.{Stray}
use Rattle.line_layout.specs.Strays.{are_shuffled, is_held}

not_less : (a b : ℕ) → is_lt (nat_cmp a b) ≡ false → b ≤ a
not_less a b h = grind (arith, tests)

rising : (ns : List ℕ) → IsSorted nat_cmp ns → (i k : ℕ) → i + k < length ns → get_or ns i 0 ≤ get_or ns (i + k) 0
rising ns s i zero lt = let same : get_or ns (i + 0) 0 ≡ get_or ns i 0 = ap (λ (j : ℕ). get_or ns j 0) (omega arith) in omega (arith, same)
rising ns s i (suc k) lt =
    let before = rising ns s i k (omega (arith, lt)) in
    let next = not_less (get_or ns (i + k + 1) 0) (get_or ns (i + k) 0) (s (i + k) 0 (omega arith) (omega (arith, lt))) in
    let same : get_or ns (i + suc k) 0 ≡ get_or ns (i + k + 1) 0 = ap (λ (j : ℕ). get_or ns j 0) (omega arith) in
    omega (arith, before, next, same)

rise : (ns : List ℕ) → IsSorted nat_cmp ns → (i j : ℕ) → i ≤ j → j < length ns → get_or ns i 0 ≤ get_or ns j 0
rise ns s i j le lt =
    let at : i + (j - i) ≡ j = omega (arith, le) in
    let r = rising ns s i (j - i) (omega (arith, at, lt)) in
    let same : get_or ns (i + (j - i)) 0 ≡ get_or ns j 0 = ap (λ (k : ℕ). get_or ns k 0) at in
    omega (arith, r, same)

module _ (ns : List ℕ) (n : ℕ) where
  found : (r : Result ℕ ℕ)
      → MatchResult r (λ i. (i < length ns) × (get_or ns i 0 ≡ n))
      (λ i. (i ≤ length ns) × ((k : ℕ) → k < i → get_or ns k 0 < n) × ((k : ℕ) → i ≤ k → k < length ns → n < get_or ns k 0))
      → is_ok r ≡ list_any (λ k. k == n) ns
  found (Ok i) h = sym (list_any_at (λ k. k == n) ns i 0 h.0 (eq-eqb (get_or ns i 0) n h.1))
  found (Err i) h = sym (list_any_none (λ k. k == n) ns (All-from_get_or (λ k. (k == n) ≡ false) ns 0
      (λ k lt. ne_eqb (get_or ns k 0) n (λ e. ⊎_elim (λ below. let a = h.1 k below in absurd (omega (arith, a, e)))
      (λ above. let a = h.2 k above lt in absurd (omega (arith, a, e))) (split k i)))))
    where
      split : (k i : ℕ) → (k < i) ⊎ (i ≤ k)
      split k zero = inr (omega arith)
      split zero (suc i) = inl (omega arith)
      split (suc k) (suc i) = ⊎_elim (λ lt. inl (omega (arith, lt))) (λ le. inr (omega (arith, le))) (split k i)

  -- what a binary search finds
  pub is_among : (r : Result ℕ ℕ) → IsBinarySearchResult (λ y. nat_cmp y n) ns r → IsSorted nat_cmp ns → is_ok r ≡ list_any (λ k. k == n) ns
  is_among r h s = found r (searched ns n r h (rise ns s))

any_map : (xs : List Stray) (n : ℕ) → list_any (λ k. k == n) (map (λ (r : Stray). r.number) xs) ≡ is_held n xs
any_map [] n = refl
any_map (x ∷ xs) n = ap (λ b. (x.number == n) || b) (any_map xs n)

-- in the sorted numbers of lines
pub is_held_so : (xs : List Stray) (ns sorted : List ℕ) (n : ℕ) → ns ≡ map (λ (r : Stray). r.number) xs → IsPermutation ns sorted
    → list_any (λ k. k == n) sorted ≡ is_held n xs
is_held_so xs ns sorted n is same =
    sym (list_any-IsPermutation (λ k. k == n) ns sorted same) ∙ ap (list_any (λ k. k == n)) is ∙ any_map xs n

abbrev held_all : List Stray → List Stray → Bool
held_all xs left = list_all (λ (r : Stray). is_held r.place xs) left

-- the next line
module _ (xs : List Stray) (i : ℕ) (d : Stray) (lt : i < length xs) (same : held_all xs (drop i xs) ≡ are_shuffled xs) (here : Bool)
    (is : here ≡ is_held (get_or xs i d).place xs) where
  stepped : here && held_all xs (drop (i + 1) xs) ≡ are_shuffled xs
  stepped = ap (λ b. b && held_all xs (drop (i + 1) xs)) is ∙ sym (ap (held_all xs) (drop_more xs i d lt)) ∙ same

  pub one_missing : here ≡ false → false ≡ are_shuffled xs
  one_missing e = sym (and_left here (held_all xs (drop (i + 1) xs)) e) ∙ stepped

  pub one_more : here ≡ true → held_all xs (drop (i + 1) xs) ≡ are_shuffled xs
  one_more e = sym (ap (λ b. b && held_all xs (drop (i + 1) xs)) e) ∙ stepped
