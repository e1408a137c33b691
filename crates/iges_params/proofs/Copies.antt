-- Lists that are copied item by item.
use Rattle.std.specs.Prelude.{◌≡◌, ℕ, zero, suc, ◌+◌, List, [], ◌∷◌, ◌++◌, take, drop, Some, slice_get}
use Rattle.std.proofs.Common.{refl, sym, ◌∙◌, ap, arith, append_assoc}
use Rattle.std.proofs.lemmas.List.{take_more}
use Rattle.std.proofs.lemmas.Option.{get_or_from_slice_get, slice_get_within}
use Rattle.iges_fields.specs.declared.value.Value.{Value}

pub one_more : {A : Type 0} (xs : List A) (i : ℕ) (x : A) → slice_get xs i ≡ Some x → take (i + 1) xs ≡ take i xs ++ x ∷ []
one_more {A} xs i x at = take_more xs i x (slice_get_within xs i x at) ∙ ap (λ (y : A). take i xs ++ y ∷ []) (get_or_from_slice_get xs i x x at)

get_drop : {X : Type 0} (xs : List X) (n i : ℕ) → slice_get (drop n xs) i ≡ slice_get xs (n + i)
get_drop xs zero i = let none : i ≡ 0 + i = omega arith in ap (slice_get xs) none
get_drop [] (suc n) i = refl
get_drop (x ∷ xs) (suc n) i = let on : suc (n + i) ≡ suc n + i = omega arith in get_drop xs n i ∙ ap (slice_get (x ∷ xs)) on

pub copy_more : (vs : List Value) (from i : ℕ) (v : Value) (start list new : List Value) → slice_get vs (from + i) ≡ Some v
    → list ≡ start ++ take i (drop from vs) → new ≡ list ++ v ∷ [] → new ≡ start ++ take (i + 1) (drop from vs)
copy_more vs from i v start list new at e en =
    en ∙ (ap (λ zs. zs ++ v ∷ []) e
    ∙ (append_assoc start (take i (drop from vs)) (v ∷ []) ∙ ap (λ zs. start ++ zs) (sym (one_more (drop from vs) i v (get_drop vs from i ∙ at)))))

pub copied : {A : Type 0} (xs : List A) (i : ℕ) (x : A) (list new : List A) → slice_get xs i ≡ Some x → list ≡ take i xs → new ≡ list ++ x ∷ []
    → new ≡ take (i + 1) xs
copied {A} xs i x list new at inv en = en ∙ (ap (λ (zs : List A). zs ++ x ∷ []) inv ∙ sym (one_more xs i x at))
