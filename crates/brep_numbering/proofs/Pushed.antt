-- Items of a list with one more.
use Rattle.std.specs.Prelude.{◌≡◌, ◌⊎◌, ℕ, zero, suc, List, [], ◌∷◌, ◌++◌, length, slice_get, Some}
use Rattle.std.proofs.Common.{refl, ap, inl, inr, ⊎_elim}
use Rattle.std.proofs.lemmas.Option.{same_Some, none-some}

-- an item of a list with one more is among those before, or it is the last
pub get_pushed : {A : Type 0} (xs : List A) (x y : A) (i : ℕ) → slice_get (xs ++ x ∷ []) i ≡ Some y → (slice_get xs i ≡ Some y) ⊎ ((i ≡ length xs) × (x ≡ y))
get_pushed [] x y zero h = inr (refl, same_Some x y h)
get_pushed [] x y (suc i) h = absurd (none-some y h)
get_pushed (z ∷ zs) x y zero h = inl h
get_pushed (z ∷ zs) x y (suc i) h = ⊎_elim (λ old. inl old) (λ last. inr (ap suc last.0, last.1)) (get_pushed zs x y i h)
