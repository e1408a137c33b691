-- Lists of keys without repeats, and the place of a key in such a list.
use Rattle.std.specs.Prelude.{◌≡◌, suc, ◌<◌, Bool, true, false, not, cond, List, [], ◌∷◌, length, filter, Some, slice_get, if◌then◌else◌}
use Rattle.std.proofs.Common.{refl, sym, ◌∙◌, ap, subst, arith, inl, inr}
use Rattle.std.proofs.lemmas.Option.{same_Some}
use Rattle.solid_data.specs.Ring.{distinct, place_of}
use Rattle.solid_data.proofs.Members.{Has}

pub to_filter : {A : Type 0} (p : A → Bool) (xs : List A) (k : A) → Has xs k → p k ≡ true → Has (filter p xs) k
to_filter p [] k h e = absurd h
to_filter p (x ∷ xs) k (inl same) e = subst (λ b. Has (cond b (x ∷ filter p xs) (filter p xs)) k) (sym (ap p same ∙ e)) (inl same)
to_filter p (x ∷ xs) k (inr h) e = by_test (p x) (to_filter p xs k h e)
  where
    by_test : (b : Bool) → Has (filter p xs) k → Has (cond b (x ∷ filter p xs) (filter p xs)) k
    by_test true m = inr m
    by_test false m = m

pub from_filter : {A : Type 0} (p : A → Bool) (xs : List A) (k : A) → Has (filter p xs) k → Has xs k
from_filter p [] k h = h
from_filter p (x ∷ xs) k h = by_test (p x) h (λ m. from_filter p xs k m)
  where
    by_test : (b : Bool) → Has (cond b (x ∷ filter p xs) (filter p xs)) k → (Has (filter p xs) k → Has xs k) → Has (x ∷ xs) k
    by_test true (inl e) m = inl e
    by_test true (inr g) m = inr (m g)
    by_test false g m = inr (m g)

pub to_distinct : {A : Type 0} (same : A → A → Bool) → ((a b : A) → same a b ≡ true → a ≡ b) → (xs : List A) (k : A) → Has xs k → Has (distinct same xs) k
to_distinct same sound [] k h = h
to_distinct same sound (x ∷ xs) k (inl e) = inl e
to_distinct same sound (x ∷ xs) k (inr h) = by_test (same x k) refl (to_distinct same sound xs k h)
  where
    by_test : (b : Bool) → same x k ≡ b → Has (distinct same xs) k → Has (x ∷ filter (λ y. not (same x y)) (distinct same xs)) k
    by_test true e m = inl (sound x k e)
    by_test false e m = inr (to_filter (λ y. not (same x y)) (distinct same xs) k m (ap not e))

pub from_distinct : {A : Type 0} (same : A → A → Bool) (xs : List A) (k : A) → Has (distinct same xs) k → Has xs k
from_distinct same [] k h = h
from_distinct same (x ∷ xs) k (inl e) = inl e
from_distinct same (x ∷ xs) k (inr h) = inr (from_distinct same xs k (from_filter (λ y. not (same x y)) (distinct same xs) k h))

pub place_below : {A : Type 0} (same : A → A → Bool) → ((a : A) → same a a ≡ true) → (xs : List A) (k : A) → Has xs k → place_of same xs k < length xs
place_below same reflexive [] k h = absurd h
place_below same reflexive (y ∷ xs) k (inl e) = subst (λ b. (if b then 0 else suc (place_of same xs k)) < length (y ∷ xs)) (sym (ap (same k) e ∙ reflexive k))
    (omega arith)
place_below same reflexive (y ∷ xs) k (inr h) = by_test (same k y) (place_below same reflexive xs k h)
  where
    by_test : (b : Bool) → place_of same xs k < length xs → (if b then 0 else suc (place_of same xs k)) < length (y ∷ xs)
    by_test true lt = omega arith
    by_test false lt = omega (arith, lt)

-- the key stands at its place
pub at_place : {A : Type 0} (same : A → A → Bool) → ((a b : A) → same a b ≡ true → a ≡ b) → ((a : A) → same a a ≡ true) → (keys : List A) (k : A) → Has keys k →
    slice_get keys (place_of same keys k) ≡ Some k
at_place same sound itself [] k h = absurd h
at_place same sound itself (y ∷ keys) k h = by_test (same k y) refl h (λ m. at_place same sound itself keys k m)
  where
    true_is_false : true ≡ false → ⊥
    true_is_false w = cc

    by_test : (b : Bool) → same k y ≡ b → Has (y ∷ keys) k → (Has keys k → slice_get keys (place_of same keys k) ≡ Some k) →
        slice_get (y ∷ keys) (if b then 0 else suc (place_of same keys k)) ≡ Some k
    by_test true e m on = ap Some (sym (sound k y e))
    by_test false e (inl is) on = absurd (true_is_false (sym (ap (same k) is ∙ itself k) ∙ e))
    by_test false e (inr m) on = on m

-- keys with one place are one
pub one_place : {A : Type 0} (same : A → A → Bool) → ((a b : A) → same a b ≡ true → a ≡ b) → ((a : A) → same a a ≡ true) → (keys : List A) (j k : A) →
    Has keys j → Has keys k
    → place_of same keys j ≡ place_of same keys k → j ≡ k
one_place same sound itself keys j k h m e = same_Some j k (sym (at_place same sound itself keys j h) ∙
    (ap (slice_get keys) e ∙ at_place same sound itself keys k m))
