-- Items at the places of a number.
use Rattle.std.specs.Prelude.{◌≡◌, ◌<◌, ◌+◌, ◌==◌, ℕ, suc, Bool, true, false, List, [], ◌∷◌, ◌++◌, length, map, flat_map, slice_get, Option, Some}
use Rattle.std.specs.Prelude.{if◌then◌else◌}
use Rattle.std.specs.List.{enumerate_from}
use Rattle.std.proofs.Common.{refl, sym, ◌∙◌, ap, arith, inl, inr}
use Rattle.solid_data.proofs.Members.{Has}
use Rattle.shell_components.specs.Groups.{place_if, places_of}

read_from : {A B : Type 0} (v i : ℕ) (key : A → ℕ) (g : Option A → List B) (ts all : List A) → ((j : ℕ) → slice_get all (i + j) ≡ slice_get ts j)
    → flat_map (λ n. g (slice_get all n)) (flat_map (place_if v) (enumerate_from i (map key ts))) ≡ flat_map (λ t. if key t == v then g (Some t) else []) ts
read_from v i key g [] all at = refl
read_from v i key g (t ∷ ts) all at =
    let z : i + 0 ≡ i = omega arith in
    by_test (key t == v) (ap g (sym (ap (λ n. slice_get all n) z) ∙ at 0))
    (read_from v (i + 1) key g ts all (λ j. let n : i + 1 + j ≡ i + suc j = omega arith in ap (λ n. slice_get all n) n ∙ at (suc j)))
  where
    by_test : (b : Bool) → g (slice_get all i) ≡ g (Some t) → flat_map (λ n. g (slice_get all n)) (flat_map (place_if v) (enumerate_from (i + 1) (map key ts)))
        ≡ flat_map (λ t. if key t == v then g (Some t) else []) ts
        → flat_map (λ n. g (slice_get all n)) ((if b then i ∷ [] else []) ++ flat_map (place_if v) (enumerate_from (i + 1) (map key ts)))
        ≡ (if b then g (Some t) else []) ++ flat_map (λ t. if key t == v then g (Some t) else []) ts
    by_test true h r = ap (λ xs. xs ++ flat_map (λ n. g (slice_get all n)) (flat_map (place_if v) (enumerate_from (i + 1) (map key ts)))) h
        ∙ ap (λ xs. g (Some t) ++ xs) r
    by_test false h r = r

-- what is read at the places of a number is what is read of the items that have it
pub places_read : {A B : Type 0} (v : ℕ) (key : A → ℕ) (g : Option A → List B) (ts : List A) → flat_map (λ n. g (slice_get ts n)) (places_of v (map key ts))
    ≡ flat_map (λ t. if key t == v then g (Some t) else []) ts
places_read v key g ts = read_from v 0 key g ts ts (λ j. let z : 0 + j ≡ j = omega arith in ap (λ n. slice_get ts n) z)

below_from : (v i k : ℕ) (xs : List ℕ) → Has (flat_map (place_if v) (enumerate_from i xs)) k → k < i + length xs
below_from v i k [] m = absurd m
below_from v i k (x ∷ xs) m = by_test (x == v) m (λ n. below_from v (i + 1) k xs n)
  where
    by_test : (b : Bool) → Has ((if b then i ∷ [] else []) ++ flat_map (place_if v) (enumerate_from (i + 1) xs)) k
        → (Has (flat_map (place_if v) (enumerate_from (i + 1) xs)) k → k < i + 1 + length xs) → k < i + suc (length xs)
    by_test true (inl e) more = omega (arith, e)
    by_test true (inr m) more = let h = more m in omega (arith, h)
    by_test false m more = let h = more m in omega (arith, h)

-- the places of a number lie within the list
pub place_below : (v k : ℕ) (xs : List ℕ) → Has (places_of v xs) k → k < length xs
place_below v k xs m = let h = below_from v 0 k xs m in omega (arith, h)
