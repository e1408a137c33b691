-- Flags that are put one by one.
use Rattle.std.specs.Prelude.{◌≡◌, ℕ, suc, ◌+◌, ◌*◌, ◌≤◌, Bool, List, [], ◌∷◌, length, set, drop, slice_get, Some}
use Rattle.std.proofs.Common.{refl, sym, ◌∙◌, ap, arith}
use Rattle.std.proofs.lemmas.List.{set_past, drop_all}
use Rattle.iges_base.proofs.Lists.{open_at}
use Rattle.iges_fields.specs.declared.value.Value.{Value}
use Rattle.solid_reorient.specs.Reflagged.{flag_value, pairs_with, values_with}
use Rattle.solid_reorient.specs.Steps.{put_from}

put_none : (at : ℕ) (bs : List Bool) → put_from at bs [] ≡ []
put_none at [] = refl
put_none at (b ∷ bs) = ap (put_from (suc (suc at)) bs) (set_past [] at (flag_value b) (omega arith)) ∙ put_none (suc (suc at)) bs

put_behind : (at : ℕ) (bs : List Bool) (v : Value) (vs : List Value) → put_from (suc at) bs (v ∷ vs) ≡ v ∷ put_from at bs vs
put_behind at [] v vs = refl
put_behind at (b ∷ bs) v vs = put_behind (suc (suc at)) bs v (set vs at (flag_value b))

pairs_put : (bs : List Bool) (vs : List Value) → put_from 1 bs vs ≡ pairs_with bs vs
pairs_put [] vs = refl
pairs_put (b ∷ bs) [] = put_none 1 (b ∷ bs)
pairs_put (b ∷ bs) (p ∷ []) = ap (put_from 3 bs) (set_past (p ∷ []) 1 (flag_value b) (omega arith))
    ∙ (put_behind 2 bs p [] ∙ ap (λ (xs : List Value). p ∷ xs) (put_none 2 bs))
pairs_put (b ∷ bs) (p ∷ v ∷ vs) =
    put_behind 2 bs p (flag_value b ∷ vs)
    ∙ ap (λ (xs : List Value). p ∷ xs) (put_behind 1 bs (flag_value b) vs ∙ ap (λ (xs : List Value). flag_value b ∷ xs) (pairs_put bs vs))

pub values_put : (flags : List Bool) (vs : List Value) → put_from 2 flags vs ≡ values_with flags vs
values_put flags [] = put_none 2 flags
values_put flags (n ∷ vs) = put_behind 1 flags n vs ∙ ap (λ (xs : List Value). n ∷ xs) (pairs_put flags vs)

pub put_next : (flags : List Bool) (k : ℕ) (b : Bool) (now new all : List Value) → slice_get flags k ≡ Some b → new ≡ set now (2 * k + 2) (flag_value b)
    → put_from (2 * k + 2) (drop k flags) now ≡ all → put_from (2 * (k + 1) + 2) (drop (k + 1) flags) new ≡ all
put_next flags k b now new all at e inv =
    let on : 2 * (k + 1) + 2 ≡ suc (suc (2 * k + 2)) = omega arith in
    ap (λ n. put_from n (drop (k + 1) flags) new) on
    ∙ (ap (put_from (suc (suc (2 * k + 2))) (drop (k + 1) flags)) e
    ∙ (sym (ap (λ (bs : List Bool). put_from (2 * k + 2) bs now) (open_at flags k b at)) ∙ inv))

pub put_all : (flags : List Bool) (k : ℕ) (now all : List Value) → length flags ≤ k → put_from (2 * k + 2) (drop k flags) now ≡ all → now ≡ all
put_all flags k now all past inv = sym (ap (λ (bs : List Bool). put_from (2 * k + 2) bs now) (drop_all k flags past)) ∙ inv
