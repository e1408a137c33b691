-- The places of a number, and lists put together of lists without repeats.
use Rattle.std.specs.Prelude.{◌≡◌, ◌<◌, ◌≤◌, ◌+◌, ◌==◌, ◌⊎◌, ℕ, zero, suc, Bool, true, false, List, [], ◌∷◌, ◌++◌, map, flat_map}
use Rattle.std.specs.Prelude.{Some, slice_get, if◌then◌else◌}
use Rattle.std.specs.List.{enumerate_from}
use Rattle.std.proofs.Common.{refl, sym, ◌∙◌, ap, subst, arith, inl, inr, ⊎_elim}
use Rattle.std.proofs.lemmas.Bool.Decides.{eqb_tells}
use Rattle.std.proofs.lemmas.Bool.{eqb-true}
use Rattle.std.proofs.lemmas.Option.{same_Some}
use Rattle.solid_data.proofs.Members.{Has, NoRepeat, from_flat_map, has_append, has_get}
use Rattle.shell_components.specs.Groups.{place_if, places_of}

pub is_same : (a b : ℕ) → a ≡ b → (a == b) ≡ true
is_same a b e = ⊎_elim (λ h. h.0) (λ h. absurd (h.1 e)) (eqb_tells a b)

-- where the number is, there it has a place
has_from : (v i k : ℕ) (xs : List ℕ) → slice_get xs k ≡ Some v → Has (flat_map (place_if v) (enumerate_from i xs)) (i + k)
has_from v i k [] at = absurd cc
has_from v i zero (x ∷ xs) at =
    let z : i ≡ i + 0 = omega arith in by_test (x == v) (is_same x v (same_Some x v at)) z
  where
    by_test : (b : Bool) → b ≡ true → i ≡ i + 0 → Has ((if b then i ∷ [] else []) ++ flat_map (place_if v) (enumerate_from (i + 1) xs)) (i + 0)
    by_test true e z = inl z
    by_test false e z = absurd cc
has_from v i (suc k) (x ∷ xs) at =
    let z : i + 1 + k ≡ i + suc k = omega arith in
    by_test (x == v) (subst (λ n. Has (flat_map (place_if v) (enumerate_from (i + 1) xs)) n) z (has_from v (i + 1) k xs at))
  where
    by_test : (b : Bool) → Has (flat_map (place_if v) (enumerate_from (i + 1) xs)) (i + suc k)
        → Has ((if b then i ∷ [] else []) ++ flat_map (place_if v) (enumerate_from (i + 1) xs)) (i + suc k)
    by_test true h = inr h
    by_test false h = h

pub place_has : (v k : ℕ) (xs : List ℕ) → slice_get xs k ≡ Some v → Has (places_of v xs) k
place_has v k xs at = let z : 0 + k ≡ k = omega arith in subst (Has (places_of v xs)) z (has_from v 0 k xs at)

-- and at a place the number is
is_from : (v i : ℕ) (xs : List ℕ) (r : ℕ) → Has (flat_map (place_if v) (enumerate_from i xs)) r → (k : ℕ) × (r ≡ i + k) × (slice_get xs k ≡ Some v)
is_from v i [] r h = absurd h
is_from v i (x ∷ xs) r h = by_test (x == v) refl h (is_from v (i + 1) xs r)
  where
    by_test : (b : Bool) → (x == v) ≡ b → Has ((if b then i ∷ [] else []) ++ flat_map (place_if v) (enumerate_from (i + 1) xs)) r
        → (Has (flat_map (place_if v) (enumerate_from (i + 1) xs)) r → (k : ℕ) × (r ≡ i + 1 + k) × (slice_get xs k ≡ Some v))
        → (k : ℕ) × (r ≡ i + k) × (slice_get (x ∷ xs) k ≡ Some v)
    by_test true e (inl is) more = (0, omega (arith, is), ap (λ n. Some n) (eqb-true x v e))
    by_test true e (inr m) more = let g = more m in (suc g.0, omega (arith, g.1), g.2)
    by_test false e m more = let g = more m in (suc g.0, omega (arith, g.1), g.2)

pub place_is : (v r : ℕ) (xs : List ℕ) → Has (places_of v xs) r → slice_get xs r ≡ Some v
place_is v r xs h = let g = is_from v 0 xs r h in let z : g.0 ≡ r = omega (arith, g.1) in subst (λ n. slice_get xs n ≡ Some v) z g.2

rising_from : (v i : ℕ) (xs : List ℕ) → NoRepeat (flat_map (place_if v) (enumerate_from i xs))
rising_from v i [] = tt
rising_from v i (x ∷ xs) = by_test (x == v) (rising_from v (i + 1) xs)
  where
    by_test : (b : Bool) → NoRepeat (flat_map (place_if v) (enumerate_from (i + 1) xs))
        → NoRepeat ((if b then i ∷ [] else []) ++ flat_map (place_if v) (enumerate_from (i + 1) xs))
    by_test true none = ((λ h. let g = is_from v (i + 1) xs i h in absurd (omega (arith, g.1))), none)
    by_test false none = none

pub places_once : (v : ℕ) (xs : List ℕ) → NoRepeat (places_of v xs)
places_once v xs = rising_from v 0 xs

-- ---- lists put together

once_append : (xs ys : List ℕ) → NoRepeat xs → NoRepeat ys → ((z : ℕ) → Has xs z → Has ys z → ⊥) → NoRepeat (xs ++ ys)
once_append [] ys none more apart = more
once_append (x ∷ xs) ys none more apart =
    ((λ h. ⊎_elim (λ k. none.0 k) (λ k. apart x (inl refl) k) (has_append xs ys x h)), once_append xs ys none.1 more (λ z h k. apart z (inr h) k))

pub once_flat : (g : ℕ → List ℕ) (xs : List ℕ) → NoRepeat xs → ((x : ℕ) → Has xs x → NoRepeat (g x))
    → ((x y z : ℕ) → Has xs x → Has xs y → Has (g x) z → Has (g y) z → x ≡ y) → NoRepeat (flat_map g xs)
once_flat g [] none each apart = tt
once_flat g (x ∷ xs) none each apart =
    once_append (g x) (flat_map g xs) (each x (inl refl)) (once_flat g xs none.1 (λ y h. each y (inr h)) (λ y w z h k a b. apart y w z (inr h) (inr k) a b))
    (λ z h k.
    let from = from_flat_map g xs z k in
    none.0 (subst (Has xs) (sym (apart x from.0 z (inl refl) (inr from.1) h from.2)) from.1))

-- of a list without repeats each member is at one place
pub one_place : (xs : List ℕ) (i j r : ℕ) → NoRepeat xs → slice_get xs i ≡ Some r → slice_get xs j ≡ Some r → i ≡ j
one_place [] i j r none at there = absurd cc
one_place (x ∷ xs) zero zero r none at there = refl
one_place (x ∷ xs) zero (suc j) r none at there = absurd (none.0 (subst (Has xs) (sym (same_Some x r at)) (has_get xs j r there)))
one_place (x ∷ xs) (suc i) zero r none at there = absurd (none.0 (subst (Has xs) (sym (same_Some x r there)) (has_get xs i r at)))
one_place (x ∷ xs) (suc i) (suc j) r none at there = ap suc (one_place xs i j r none.1 at there)
