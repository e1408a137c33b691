-- What is written of items that are numbered, and of those that are left.
use Rattle.std.specs.Prelude.{◌≡◌, ◌<◌, ◌≤◌, ◌+◌, ℕ, zero, suc, List, [], ◌∷◌, ◌++◌, length, flat_map, take, slice_get, Some}
use Rattle.std.specs.List.{enumerate_from}
use Rattle.std.proofs.Common.{arith, sym, ◌∙◌, ap, get_or, drop}
use Rattle.std.proofs.lemmas.List.{drop_all, append-nil}
use Rattle.edge_uses.proofs.Joins.{split_drop}
use Rattle.solid_faults.proofs.GapSteps.{piece_more}

-- the items from item i on, from 0, which are numbered from 1
abbrev pub items_left : {A B : Type 0} → (ℕ × A → List B) → List A → ℕ → List B
items_left f xs i = flat_map f (enumerate_from (i + 1) (drop i xs))

pub numbered_step : {A B : Type 0} (f : ℕ × A → List B) (xs : List A) (x : A) (i : ℕ) (old new all : List B) → i < length xs → get_or xs i x ≡ x
    → old ++ items_left f xs i ≡ all → new ≡ old ++ f (i + 1, x) → new ++ items_left f xs (i + 1) ≡ all
numbered_step f xs x i old new all lt at h e =
    piece_more old new (f (i + 1, x)) (items_left f xs (i + 1)) all
    (ap (λ ys. old ++ flat_map f (enumerate_from (i + 1) ys)) (sym (split_drop xs x i lt at)) ∙ h) e

pub numbered_done : {A B : Type 0} (f : ℕ × A → List B) (xs : List A) (i : ℕ) (now all : List B) → length xs ≤ i → now ++ items_left f xs i ≡ all → now ≡ all
numbered_done f xs i now all past h =
    sym (append-nil now) ∙ (ap (λ ys. now ++ flat_map f (enumerate_from (i + 1) ys)) (sym (drop_all i xs past)) ∙ h)

-- an item that is among the first ones stands there too
pub among_first : {A : Type 0} (xs : List A) (i n : ℕ) (x : A) → i < n → slice_get xs i ≡ Some x → slice_get (take n xs) i ≡ Some x
among_first xs i zero x lt at = absurd (omega (arith, lt))
among_first [] i (suc n) x lt at = at
among_first (y ∷ xs) zero (suc n) x lt at = at
among_first (y ∷ xs) (suc i) (suc n) x lt at = among_first xs i n x (omega (arith, lt)) at
