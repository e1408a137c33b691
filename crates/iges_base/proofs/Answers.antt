-- Answers that are a value or a fault, or that may be none.
use Rattle.std.proofs.Common.{◌≡◌, ◌⊎◌, inl, inr, Option, Some, None, Result, Ok, Err, refl, ap}

abbrev pub done : {X F : Type 0} → X → Result X F
done x = Ok x

abbrev pub failed : {X F : Type 0} → F → Result X F
failed f = Err f

pub ok_is : {X F : Type 0} (u v : X) → done {F = F} u ≡ done v → u ≡ v
ok_is {X} {F} u v e = ap (λ (r : Result X F). elim r as (λ _. X) [ Ok x ↦ x | Err f ↦ u ]) e

pub err_is : {X F : Type 0} (f g : F) → failed {X = X} f ≡ failed g → f ≡ g
err_is {X} {F} f g e = ap (λ (r : Result X F). elim r as (λ _. F) [ Ok x ↦ f | Err h ↦ h ]) e

pub clash : {X F : Type 0} (f : F) (x : X) → failed f ≡ done x → ⊥
clash f x e = absurd cc

pub cases_option : {A : Type 0} (o : Option A) → (o ≡ None) ⊎ ((x : A) × (o ≡ Some x))
cases_option None = inl refl
cases_option (Some x) = inr (x, refl)
