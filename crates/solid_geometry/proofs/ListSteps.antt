-- Lists that grow with another.
use Rattle.std.specs.Prelude.{◌≡◌, ℕ, ◌+◌, ◌<◌, ◌≤◌, List, [], ◌∷◌, ◌++◌, length, map, take, Some, slice_get}
use Rattle.std.proofs.Common.{refl, sym, ap, ◌∙◌, arith, get_or}
use Rattle.std.proofs.lemmas.List.{take_more, take_all, map-append}
use Rattle.std.proofs.lemmas.Option.{get_or_from_slice_get, slice_get_within}

pub take_next : {A : Type 0} (xs : List A) (i : ℕ) (x : A) → slice_get xs i ≡ Some x → take (i + 1) xs ≡ take i xs ++ x ∷ []
take_next xs i x at = take_more xs i x (slice_get_within xs i x at) ∙ ap (λ y. take i xs ++ y ∷ []) (get_or_from_slice_get xs i x x at)

pub map_next : {A B : Type 0} (g : A → B) (xs : List A) (i : ℕ) (x : A) (list new : List B) → slice_get xs i ≡ Some x → list ≡ map g (take i xs)
    → new ≡ list ++ g x ∷ [] → new ≡ map g (take (i + 1) xs)
map_next g xs i x list new at e en =
    en ∙ (ap (λ ys. ys ++ g x ∷ []) e ∙ (sym (map-append g (take i xs) (x ∷ [])) ∙ ap (map g) (sym (take_next xs i x at))))

pub copy_next : {A : Type 0} (xs : List A) (i : ℕ) (x : A) (list new : List A) → slice_get xs i ≡ Some x → list ≡ take i xs → new ≡ list ++ x ∷ [] → new ≡ take (i + 1) xs
copy_next xs i x list new at e en = en ∙ (ap (λ ys. ys ++ x ∷ []) e ∙ sym (take_next xs i x at))

pub fields_next : {A B : Type 0} (g : A → B) (xs : List A) (ys : List B) (i : ℕ) (x : A) (y : B) (new : List A) → slice_get ys i ≡ Some y → g x ≡ y
    → map g xs ≡ take i ys → new ≡ xs ++ x ∷ [] → map g new ≡ take (i + 1) ys
fields_next g xs ys i x y new at is e en =
    ap (map g) en ∙ (map-append g xs (x ∷ []) ∙ (ap (λ zs. zs ++ g x ∷ []) e ∙ (ap (λ z. take i ys ++ z ∷ []) is ∙ sym (take_next ys i y at))))
