-- Two lists that are made to agree item by item.
use Rattle.std.specs.Prelude.{◌≡◌, ℕ, suc, ◌+◌, ◌≤◌, List, [], ◌∷◌, ◌++◌, length, Some, slice_get}
use Rattle.std.specs.List.{AllZip}
use Rattle.std.proofs.Common.{refl, sym, ◌∙◌, ap, subst, append_assoc, drop}
use Rattle.std.proofs.lemmas.List.{append-nil, drop_all}
use Rattle.solid_data.proofs.Members.{split_at}

-- Whatever agrees with the items that are left, from i on, agrees behind these with all.
abbrev pub AgreeUpTo : {A B : Type 0} → (A → B → Type 0) → List A → ℕ → List B → Type 0
AgreeUpTo {A} {B} R xs i made = (rest : List B) → AllZip R (drop i xs) rest → AllZip R xs (made ++ rest)

pub agree_first : {A B : Type 0} (R : A → B → Type 0) (xs : List A) (made : List B) → made ≡ [] → AgreeUpTo R xs 0 made
agree_first R xs made none rest h = subst (λ ys. AllZip R xs (ys ++ rest)) (sym none) h

pub agree_more : {A B : Type 0} (R : A → B → Type 0) (xs : List A) (i : ℕ) (x : A) (y : B) (old new : List B) → slice_get xs i ≡ Some x → R x y
    → new ≡ old ++ y ∷ [] → AgreeUpTo R xs i old → AgreeUpTo R xs (i + 1) new
agree_more R xs i x y old new at here made agree rest h =
    subst (AllZip R xs) (sym (ap (λ ys. ys ++ rest) made ∙ append_assoc old (y ∷ []) rest))
    (agree (y ∷ rest) (subst (λ zs. AllZip R zs (y ∷ rest)) (sym (split_at xs i x at)) (here, h)))

pub agree_done : {A B : Type 0} (R : A → B → Type 0) (xs : List A) (i : ℕ) (made : List B) → length xs ≤ i → AgreeUpTo R xs i made → AllZip R xs made
agree_done R xs i made past agree = subst (AllZip R xs) (append-nil made) (agree [] (subst (λ zs. AllZip R zs []) (sym (drop_all i xs past)) tt))

pub zip_length : {A B : Type 0} (R : A → B → Type 0) (xs : List A) (ys : List B) → AllZip R xs ys → length xs ≡ length ys
zip_length R [] [] h = refl
zip_length R [] (y ∷ ys) h = absurd h
zip_length R (x ∷ xs) [] h = absurd h
zip_length R (x ∷ xs) (y ∷ ys) h = ap suc (zip_length R xs ys h.1)
