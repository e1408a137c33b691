-- The squares of a mesh, by their places.
use Rattle.std.specs.Prelude.{option_map, ◌≡◌, ℕ, zero, suc, ◌+◌, ◌*◌, ◌/◌, ◌%◌, ◌<◌, ◌≤◌, List, [], ◌∷◌, ◌++◌, length, map, flat_map, take, Some, slice_get}
use Rattle.std.proofs.Common.{refl, sym, ◌∙◌, ap, arith, inl, inr, length-append}
use Rattle.std.proofs.Math.Nat.{mod-eq_of_lt, mod-lt, mul_comm}
use Rattle.std.proofs.lemmas.Nat.{div-add-mod', div_below}
use Rattle.std.proofs.lemmas.List.{length-map, map-append, append-nil, take_all}
use Rattle.std.proofs.lemmas.List.Concat.{flat_map-append}
use Rattle.std.proofs.lemmas.Option.{slice_get-map, slice_get-get_or, same_Some}
use Rattle.solid_data.specs.Ring.{numbers_from}
use Rattle.solid_data.proofs.Members.{Has, from_flat_map, has_map}
use Rattle.solid_data.proofs.Occurring.{length-numbers, number_get, number_below}
use Rattle.iges_fields.specs.declared.value.Value.{Value}
use Rattle.brep_walk.proofs.WalkSteps.{take_next}
use Rattle.sample_solids.specs.Sample.{squares, square, whole}

-- ---- places in lists

pub get_left : {A : Type 0} (xs ys : List A) (k : ℕ) → k < length xs → slice_get (xs ++ ys) k ≡ slice_get xs k
get_left [] ys k lt = absurd (omega (arith, lt))
get_left (x ∷ xs) ys zero lt = refl
get_left (x ∷ xs) ys (suc k) lt = get_left xs ys k (omega (arith, lt))

pub get_right : {A : Type 0} (xs ys : List A) (m k : ℕ) → m ≡ length xs + k → slice_get (xs ++ ys) m ≡ slice_get ys k
get_right [] ys m k e = let h : m ≡ k = omega (arith, e) in ap (slice_get ys) h
get_right (x ∷ xs) ys zero k e = absurd (omega (arith, e))
get_right (x ∷ xs) ys (suc m) k e = get_right xs ys m k (omega (arith, e))

pub only_one : {A : Type 0} (x y : A) → Has (x ∷ []) y → x ≡ y
only_one x y (inl e) = e
only_one x y (inr h) = absurd h

-- the r-th of what the k-th item gives, where each gives c
pub get_chunk : {A B : Type 0} (g : A → List B) (c : ℕ) (xs : List A) → ((x : A) → Has xs x → length (g x) ≡ c) → (k r m : ℕ) (x : A) → slice_get xs k ≡ Some x
    → r < c → m ≡ c * k + r
    → slice_get (flat_map g xs) m ≡ slice_get (g x) r
get_chunk g c [] each k r m x at lt e = absurd cc
get_chunk g c (y ∷ xs) each zero r m x at lt e =
    let here : y ≡ x = same_Some y x at in
    let same : m ≡ r = omega (arith, e) in
    get_left (g y) (flat_map g xs) m (omega (arith, each y (inl refl), same, lt)) ∙ (ap (slice_get (g y)) same ∙ ap (λ z. slice_get (g z) r) here)
get_chunk g c (y ∷ xs) each (suc k) r m x at lt e =
    get_right (g y) (flat_map g xs) m (c * k + r) (omega (arith, each y (inl refl), e))
    ∙ get_chunk g c xs (λ z h. each z (inr h)) k r (c * k + r) x at lt refl

pub numbers_get : (base n k : ℕ) → k < n → slice_get (numbers_from base n) k ≡ Some (base + k)
numbers_get base n k lt = slice_get-get_or (numbers_from base n) k 0 (omega (arith, lt, length-numbers base n)) ∙ ap Some (number_get base n k 0 lt)

pub get_map : {A B : Type 0} (g : A → B) (xs : List A) (k : ℕ) (x : A) → slice_get xs k ≡ Some x → slice_get (map g xs) k ≡ Some (g x)
get_map g xs k x at = slice_get-map g xs k ∙ ap (option_map g) at

pub length_chunks : {A B : Type 0} (g : A → List B) (c : ℕ) (xs : List A) → ((x : A) → Has xs x → length (g x) ≡ c) → length (flat_map g xs) ≡ c * length xs
length_chunks g c [] each = omega arith
length_chunks g c (y ∷ xs) each = omega (arith, length-append (g y) (flat_map g xs), each y (inl refl), length_chunks g c xs (λ z h. each z (inr h)))

-- ---- squares

abbrev row : ℕ → ℕ → ℕ × ℕ
row i j = (i, j)

length_row : (n i : ℕ) → length (map (row i) (numbers_from 0 n)) ≡ n
length_row n i = length-map (numbers_from 0 n) (row i) ∙ length-numbers 0 n

pub length_squares : (n : ℕ) → length (squares n) ≡ n * n
length_squares n = length_chunks (λ i. map (row i) (numbers_from 0 n)) n (numbers_from 0 n) (λ i h. length_row n i) ∙ ap (λ k. n * k) (length-numbers 0 n)

zero_plus : (k : ℕ) → 0 + k ≡ k
zero_plus k = omega arith

-- (i, j) stands at the place i * n + j
pub squares_get : (n i j m : ℕ) → i < n → j < n → m ≡ i * n + j → slice_get (squares n) m ≡ Some (i, j)
squares_get n i j m low left e =
    let turned : i * n ≡ n * i = mul_comm i n in
    let first : slice_get (numbers_from 0 n) i ≡ Some i = numbers_get 0 n i low ∙ ap Some (zero_plus i) in
    let second : slice_get (numbers_from 0 n) j ≡ Some j = numbers_get 0 n j left ∙ ap Some (zero_plus j) in
    get_chunk (λ a. map (row a) (numbers_from 0 n)) n (numbers_from 0 n) (λ a h. length_row n a) i j m i first left (omega (arith, e, turned))
    ∙ get_map (row i) (numbers_from 0 n) j j second

abbrev pub at_place : ℕ → ℕ → ℕ × ℕ
at_place n k = (k / n, k % n)

pub squares_at : (n k : ℕ) → 0 < n → k < n * n → slice_get (squares n) k ≡ Some (k / n, k % n)
squares_at n k some lt = squares_get n (k / n) (k % n) k (div_below k n n some lt) (mod-lt k some) (sym (div-add-mod' k n))

pub squares_below : (n : ℕ) (s : ℕ × ℕ) → Has (squares n) s → (s.0 < n) × (s.1 < n)
squares_below n s h =
    let a = from_flat_map (λ i. map (row i) (numbers_from 0 n)) (numbers_from 0 n) s h in
    let b = has_map (row a.0) (numbers_from 0 n) s a.2 in
    let low : a.0 < 0 + n = (number_below 0 n a.0 a.1).1 in
    let left : b.0 < 0 + n = (number_below 0 n b.0 b.1).1 in
    let first : a.0 ≡ s.0 = ap (λ (p : ℕ × ℕ). p.0) b.2 in
    let second : b.0 ≡ s.1 = ap (λ (p : ℕ × ℕ). p.1) b.2 in
    (omega (arith, low, first), omega (arith, left, second))

-- the place of numbers below n
pub square_small : (n i j : ℕ) → i < n → j < n → square n i j ≡ i * n + j
square_small n i j low left = let a = mod-eq_of_lt low in let b = mod-eq_of_lt left in ap (λ k. k * n + j % n) a ∙ ap (λ k. i * n + k) b

-- ---- values in the order of the squares

pub squares_more : {A : Type 0} (g : ℕ × ℕ → List A) (n k : ℕ) → 0 < n → k < n * n → flat_map g (take (k + 1) (squares n)) ≡ flat_map g (take k (squares n))
    ++ g (k / n, k % n)
squares_more g n k some lt =
    ap (flat_map g) (take_next (squares n) k (at_place n k) (squares_at n k some lt))
    ∙ (flat_map-append g (take k (squares n)) (at_place n k ∷ []) ∙ ap (λ ys. flat_map g (take k (squares n)) ++ ys) (append-nil (g (at_place n k))))

pub squares_all : (n k : ℕ) → n * n ≤ k → take k (squares n) ≡ squares n
squares_all n k past = take_all k (squares n) (omega (arith, past, length_squares n))

pub values_more : (g : ℕ × ℕ → List ℕ) (n k c : ℕ) (old new : List Value) → 0 < n → k < n * n → old ≡ map whole (c ∷ flat_map g (take k (squares n)))
    → new ≡ old ++ map whole (g (k / n, k % n)) → new ≡ map whole (c ∷ flat_map g (take (k + 1) (squares n)))
values_more g n k c old new some lt before is =
    is ∙ (ap (λ vs. vs ++ map whole (g (k / n, k % n))) before
    ∙ (sym (map-append whole (c ∷ flat_map g (take k (squares n))) (g (k / n, k % n))) ∙ ap (λ xs. map whole (c ∷ xs)) (sym (squares_more g n k some lt))))

pub values_all : (g : ℕ × ℕ → List ℕ) (n k c : ℕ) (all : List Value) → n * n ≤ k → all ≡ map whole (c ∷ flat_map g (take k (squares n)))
    → all ≡ map whole (c ∷ flat_map g (squares n))
values_all g n k c all past is = is ∙ ap (λ ss. map whole (c ∷ flat_map g ss)) (squares_all n k past)
