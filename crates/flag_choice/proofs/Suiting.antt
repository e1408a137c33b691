-- Lists of flags that suit the shells so far.
use Rattle.std.specs.Prelude.{◌≡◌, ◌⊎◌, ℕ, zero, suc, ◌<◌, Bool, List, [], ◌∷◌, ◌++◌, length, Some, slice_get}
use Rattle.std.proofs.Common.{refl, sym, ◌∙◌, ap, subst, inl, inr, arith}
use Rattle.std.proofs.lemmas.Option.{none-some, same_Some}
use Rattle.solid_data.specs.SolidData.{SolidData}
use Rattle.solid_data.proofs.Members.{get_some}
use Rattle.flag_choice.specs.Suiting.{FlagsSuit, AllSuit}

get_last : {A : Type 0} (xs : List A) (x : A) (j : ℕ) (y : A) → slice_get (xs ++ x ∷ []) j ≡ Some y → (slice_get xs j ≡ Some y) ⊎ ((j ≡ length xs) × (x ≡ y))
get_last [] x zero y at = inr (refl, same_Some x y at)
get_last [] x (suc j) y at = absurd (none-some y at)
get_last (z ∷ zs) x zero y at = inl at
get_last (z ∷ zs) x (suc j) y at = by_place (get_last zs x j y at)
  where
    by_place : (slice_get zs j ≡ Some y) ⊎ ((j ≡ length zs) × (x ≡ y)) → (slice_get zs j ≡ Some y) ⊎ ((suc j ≡ suc (length zs)) × (x ≡ y))
    by_place (inl e) = inl e
    by_place (inr e) = inr (ap suc e.0, e.1)

pub more_suit : (s : SolidData) (lists new : List (List Bool)) (x : List Bool) (k : ℕ) → length lists ≡ k
    → ((j : ℕ) (y : List Bool) → slice_get lists j ≡ Some y → FlagsSuit s j y) → FlagsSuit s k x → new ≡ lists ++ x ∷ [] → (j : ℕ) (y : List Bool)
    → slice_get new j ≡ Some y → FlagsSuit s j y
more_suit s lists new x k e each suit en j y at = by_place (get_last lists x j y (subst (λ (zs : List (List Bool)). slice_get zs j ≡ Some y) en at))
  where
    by_place : (slice_get lists j ≡ Some y) ⊎ ((j ≡ length lists) × (x ≡ y)) → FlagsSuit s j y
    by_place (inl there) = each j y there
    by_place (inr last) = subst (λ i. FlagsSuit s i y) (sym (last.0 ∙ e)) (subst (FlagsSuit s k) last.1 suit)

-- where some shell has no flags, no lists suit
pub none_suit : (s : SolidData) (k : ℕ) → k < length s.shells → ((x : List Bool) → ¬ FlagsSuit s k x) → (lists : List (List Bool)) → ¬ AllSuit s lists
none_suit s k lt none lists a = let x = get_some lists k (omega (arith, lt, a.each)) in none x.0 (a.suit k x.0 x.1)
