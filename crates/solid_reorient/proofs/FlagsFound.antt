-- The list of flags that is for an entry.
use Rattle.std.specs.Prelude.{◌≡◌, ℕ, zero, suc, ◌+◌, ◌<◌, ◌≤◌, Bool, true, false, ℤ, pos, List, [], ◌∷◌, ◌++◌, length, map, take, drop, slice_get, Option}
use Rattle.std.specs.Prelude.{Some, None}
use Rattle.std.specs.Ordering.{int_eq}
use Rattle.std.proofs.Common.{refl, sym, ◌∙◌, ap, arith}
use Rattle.std.proofs.lemmas.Bool.{cond-true, cond-false}
use Rattle.std.proofs.lemmas.Bool.Decides.{Decides-int_eq}
use Rattle.std.proofs.lemmas.List.{drop_all, map-append}
use Rattle.iges_base.proofs.Lists.{open_at, some_at}
use Rattle.iges_params.proofs.Copies.{one_more}
use Rattle.solid_reorient.specs.Reflagged.{flags_for}

pub not_equal : (a b : ℤ) → ¬ (a ≡ b) → int_eq a b ≡ false
not_equal a b h = by_test (int_eq a b) refl
  where
    by_test : (t : Bool) → int_eq a b ≡ t → t ≡ false
    by_test true e = absurd (h ((Decides-int_eq a b).0 e))
    by_test false e = refl

pub no_shells : (flags : List (List Bool)) (m : ℕ) → flags_for flags [] m ≡ []
no_shells [] m = refl
no_shells (x ∷ flags) m = refl

pub first_is : (x : List Bool) (flags : List (List Bool)) (z : ℤ) (zs : List ℤ) (m : ℕ) → z ≡ pos m → flags_for (x ∷ flags) (z ∷ zs) m ≡ x
first_is x flags z zs m e = cond-true (int_eq z (pos m)) x (flags_for flags zs m) ((Decides-int_eq z (pos m)).1 e)

pub first_not : (x : List Bool) (flags : List (List Bool)) (z : ℤ) (zs : List ℤ) (m : ℕ) → int_eq z (pos m) ≡ false
    → flags_for (x ∷ flags) (z ∷ zs) m ≡ flags_for flags zs m
first_not x flags z zs m e = cond-false (int_eq z (pos m)) x (flags_for flags zs m) e

module _ (flags : List (List Bool)) (zs : List ℤ) (k : ℕ) (m : ℕ) where
  from_here : (x : List Bool) (z : ℤ) → slice_get flags k ≡ Some x → slice_get zs k ≡ Some z
      → flags_for (drop k flags) (drop k zs) m ≡ flags_for (x ∷ drop (k + 1) flags) (z ∷ drop (k + 1) zs) m
  from_here x z a b = ap (λ (fs : List (List Bool)). flags_for fs (drop k zs) m) (open_at flags k x a)
      ∙ ap (λ (ys : List ℤ). flags_for (x ∷ drop (k + 1) flags) ys m) (open_at zs k z b)

  pub found_here : (x : List Bool) (z : ℤ) → slice_get flags k ≡ Some x → slice_get zs k ≡ Some z → z ≡ pos m → flags_for (drop k flags) (drop k zs) m ≡ x
  found_here x z a b e = from_here x z a b ∙ first_is x (drop (k + 1) flags) z (drop (k + 1) zs) m e

  pub none_here : length flags ≤ k → flags_for (drop k flags) (drop k zs) m ≡ []
  none_here past = ap (λ (fs : List (List Bool)). flags_for fs (drop k zs) m) (drop_all k flags past)

  pub past_end : length zs ≤ k → flags_for (drop k flags) (drop k zs) m ≡ []
  past_end past = ap (λ (ys : List ℤ). flags_for (drop k flags) ys m) (drop_all k zs past) ∙ no_shells (drop k flags) m

  pub not_here : (x : List Bool) (z : ℤ) → slice_get flags k ≡ Some x → slice_get zs k ≡ Some z → int_eq z (pos m) ≡ false
      → flags_for (drop k flags) (drop k zs) m ≡ flags_for (drop (k + 1) flags) (drop (k + 1) zs) m
  not_here x z a b e = from_here x z a b ∙ first_not x (drop (k + 1) flags) z (drop (k + 1) zs) m e

none_past : {A : Type 0} (xs : List A) (k : ℕ) → slice_get xs k ≡ None → length xs ≤ k
none_past [] k e = omega arith
none_past (x ∷ xs) zero e = absurd cc
none_past (x ∷ xs) (suc k) e = omega (arith, none_past xs k e)

-- an entry that isn't this one
pub skip : (flags : List (List Bool)) (zs : List ℤ) (k m : ℕ) → k < length zs → ((z : ℤ) → slice_get zs k ≡ Some z → int_eq z (pos m) ≡ false)
    → flags_for (drop k flags) (drop k zs) m ≡ flags_for (drop (k + 1) flags) (drop (k + 1) zs) m
skip flags zs k m lt never = by_place (some_at zs k lt) (slice_get flags k) refl
  where
    more : length flags ≤ k → length flags ≤ k + 1
    more past = omega (arith, past)

    by_place : (z : ℤ) × (slice_get zs k ≡ Some z) → (o : Option (List Bool)) → slice_get flags k ≡ o
        → flags_for (drop k flags) (drop k zs) m ≡ flags_for (drop (k + 1) flags) (drop (k + 1) zs) m
    by_place (z, at) (Some x) e = not_here flags zs k m x z e at (never z at)
    by_place (z, at) None e = let past : length flags ≤ k = none_past flags k e in none_here flags zs k m past
        ∙ sym (ap (λ (fs : List (List Bool)). flags_for fs (drop (k + 1) zs) m) (drop_all (k + 1) flags (more past)))

pub next_number : (xs : List (ℤ × Bool)) (i : ℕ) (p : ℤ × Bool) (list new : List ℤ) → slice_get xs i ≡ Some p → list ≡ map (λ (q : ℤ × Bool). q.0) (take i xs)
    → new ≡ list ++ p.0 ∷ [] → new ≡ map (λ (q : ℤ × Bool). q.0) (take (i + 1) xs)
next_number xs i p list new at e en =
    en ∙ (ap (λ (zs : List ℤ). zs ++ p.0 ∷ []) e
    ∙ sym (ap (map (λ (q : ℤ × Bool). q.0)) (one_more xs i p at) ∙ map-append (λ (q : ℤ × Bool). q.0) (take i xs) (p ∷ [])))
