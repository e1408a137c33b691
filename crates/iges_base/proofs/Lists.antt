-- Lists whose items pass a test, and what stands at a place.
use Rattle.std.proofs.Common.{◌≡◌, inl, inr, ℕ, zero, suc, ◌+◌, ◌<◌, Bool, true, false, cond, List, [], ◌∷◌, ◌++◌, length, take, drop, reverse, Some, refl}
use Rattle.std.proofs.Common.{sym, ap, ◌∙◌, arith}
use Rattle.std.specs.Prelude.{set, slice_get, take_while}
use Rattle.std.specs.List.{AllByRecursion, list_all, prefix_len}
use Rattle.std.proofs.Math.Numerals.{one-add}
use Rattle.std.proofs.lemmas.Option.{get_or_from_slice_get, slice_get_cases, slice_get_within}
use Rattle.std.proofs.lemmas.Bool.{and_parts, and_from, cases_Bool}
use Rattle.std.proofs.lemmas.List.{drop_more, take-append-drop, take_at, reverse-append}
use Rattle.std.proofs.lemmas.List.Folds.{length-prefix_len, list_all-append}

module _ {X : Type 0} (p : X → Bool) where
  pub prefix_len-pass : (x : X) (xs : List X) → p x ≡ true → prefix_len p (x ∷ xs) ≡ suc (prefix_len p xs)
  prefix_len-pass x xs e = ap (λ (b : Bool). cond b (1 + prefix_len p xs) 0) e ∙ one-add (prefix_len p xs)

  pub prefix_len-stop : (x : X) (xs : List X) → p x ≡ false → prefix_len p (x ∷ xs) ≡ 0
  prefix_len-stop x xs e = ap (λ (b : Bool). cond b (1 + prefix_len p xs) 0) e

  -- a front of elements that pass, and one that doesn't
  pub prefix_len-front : (xs : List X) (y : X) (ys : List X) → list_all p xs ≡ true → p y ≡ false → prefix_len p (xs ++ y ∷ ys) ≡ length xs
  prefix_len-front [] y ys all e = prefix_len-stop y ys e
  prefix_len-front (x ∷ xs) y ys all e =
      let parts = and_parts (p x) (list_all p xs) all in
      prefix_len-pass x (xs ++ y ∷ ys) parts.0 ∙ ap suc (prefix_len-front xs y ys parts.1 e)

  pub take_while-front : (xs : List X) (y : X) (ys : List X) → list_all p xs ≡ true → p y ≡ false → take_while p (xs ++ y ∷ ys) ≡ xs
  take_while-front xs y ys all e = take_at xs (y ∷ ys) (prefix_len p (xs ++ y ∷ ys)) (sym (prefix_len-front xs y ys all e))

  -- a list is its front and what is behind it
  pub take_while-drop : (xs : List X) → xs ≡ take_while p xs ++ drop (length (take_while p xs)) xs
  take_while-drop xs = sym (ap (λ (n : ℕ). take_while p xs ++ drop n xs) (length-prefix_len p xs) ∙ take-append-drop (prefix_len p xs) xs)

  pub list_all-take_while : (xs : List X) → list_all p (take_while p xs) ≡ true
  list_all-take_while [] = refl
  list_all-take_while (x ∷ xs) =
      elim (cases_Bool (p x)) [
        | inl e ↦
            let is : take_while p (x ∷ xs) ≡ x ∷ take_while p xs = ap (λ (n : ℕ). take n (x ∷ xs)) (prefix_len-pass x xs e) in
            ap (list_all p) is ∙ and_from (p x) (list_all p (take_while p xs)) e (list_all-take_while xs)
        | inr e ↦ ap (λ (n : ℕ). list_all p (take n (x ∷ xs))) (prefix_len-stop x xs e)
      ]

  pub list_all-reverse : (xs : List X) → list_all p xs ≡ true → list_all p (reverse xs) ≡ true
  list_all-reverse [] h = refl
  list_all-reverse (x ∷ xs) h =
      let parts = and_parts (p x) (list_all p xs) h in
      ap (list_all p) (reverse-cons x xs) ∙ list_all-append p (reverse xs) (x ∷ [])
      ∙ and_from (list_all p (reverse xs)) (list_all p (x ∷ [])) (list_all-reverse xs parts.1) (and_from (p x) true parts.0 refl)
    where
      reverse-cons : (y : X) (ys : List X) → reverse (y ∷ ys) ≡ reverse ys ++ y ∷ []
      reverse-cons y ys = reverse-append (y ∷ []) ys

  pub list_all-parts : (xs ys : List X) → list_all p (xs ++ ys) ≡ true → (list_all p xs ≡ true) × (list_all p ys ≡ true)
  list_all-parts xs ys h = and_parts (list_all p xs) (list_all p ys) (sym (list_all-append p xs ys) ∙ h)

  pub list_all-both : (xs ys : List X) → list_all p xs ≡ true → list_all p ys ≡ true → list_all p (xs ++ ys) ≡ true
  list_all-both xs ys h k = list_all-append p xs ys ∙ and_from _ _ h k

  pub list_all-take : (n : ℕ) (xs : List X) → list_all p xs ≡ true → list_all p (take n xs) ≡ true
  list_all-take zero xs h = refl
  list_all-take (suc n) [] h = refl
  list_all-take (suc n) (x ∷ xs) h = let parts = and_parts (p x) (list_all p xs) h in and_from (p x) (list_all p (take n xs)) parts.0
      (list_all-take n xs parts.1)

  pub list_all-set : (xs : List X) (i : ℕ) (y : X) → p y ≡ true → list_all p xs ≡ true → list_all p (set xs i y) ≡ true
  list_all-set [] i y e h = refl
  list_all-set (x ∷ xs) zero y e h = and_from (p y) (list_all p xs) e (and_parts (p x) (list_all p xs) h).1
  list_all-set (x ∷ xs) (suc i) y e h =
      let parts = and_parts (p x) (list_all p xs) h in
      and_from (p x) (list_all p (set xs i y)) parts.0 (list_all-set xs i y e parts.1)

  pub list_all-drop : (n : ℕ) (xs : List X) → list_all p xs ≡ true → list_all p (drop n xs) ≡ true
  list_all-drop zero xs h = h
  list_all-drop (suc n) [] h = refl
  list_all-drop (suc n) (x ∷ xs) h = list_all-drop n xs (and_parts (p x) (list_all p xs) h).1

pub list_all-implies : {X : Type 0} (p q : X → Bool) → ((x : X) → p x ≡ true → q x ≡ true) → (xs : List X) → list_all p xs ≡ true → list_all q xs ≡ true
list_all-implies p q imp [] h = refl
list_all-implies p q imp (x ∷ xs) h = let parts = and_parts (p x) (list_all p xs) h in and_from (q x) (list_all q xs) (imp x parts.0)
    (list_all-implies p q imp xs parts.1)

pub all_append : {X : Type 0} (P : X → Type 0) (xs ys : List X) → AllByRecursion P xs → AllByRecursion P ys → AllByRecursion P (xs ++ ys)
all_append P [] ys h k = k
all_append P (x ∷ xs) ys h k = (h.0, all_append P xs ys h.1 k)

-- the items from a place on begin with the one there
pub open_at : {X : Type 0} (xs : List X) (i : ℕ) (x : X) → slice_get xs i ≡ Some x → drop i xs ≡ x ∷ drop (i + 1) xs
open_at {X} xs i x is = drop_more xs i x (slice_get_within xs i x is) ∙ ap (λ (y : X). y ∷ drop (i + 1) xs) (get_or_from_slice_get xs i x x is)

pub some_at : {X : Type 0} (xs : List X) (i : ℕ) → i < length xs → (x : X) × (slice_get xs i ≡ Some x)
some_at xs i h = elim (slice_get_cases xs i).1 [ inl t ↦ (t.0, t.2) | inr t ↦ absurd (omega (arith, h, t.0)) ]
