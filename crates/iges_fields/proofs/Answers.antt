-- Answers that are a value or a fault, one after the other.
use Rattle.std.proofs.Common.{◌≡◌, ◌⊎◌, inl, inr, Result, Ok, Err, refl, ap}
use Rattle.iges_base.proofs.Answers.{done, failed, err_is, clash}
use Rattle.iges_fields.specs.Reading.{◌>>=◌}

pub bind_ok : {A B F : Type 0} (r : Result A F) (k : A → Result B F) (y : B) → (r >>= k) ≡ done y → (x : A) × (r ≡ done x) × (k x ≡ done y)
bind_ok (Ok x) k y e = (x, refl, e)
bind_ok (Err f) k y e = absurd (clash f y e)

pub bind_err : {A B F : Type 0} (r : Result A F) (k : A → Result B F) (f : F) → (r >>= k) ≡ failed f →
    (r ≡ failed f) ⊎ ((x : A) × (r ≡ done x) × (k x ≡ failed f))
bind_err (Ok x) k f e = inr (x, refl, e)
bind_err {A} {B} (Err g) k f e = inl (ap (λ h. failed h) (err_is {X = B} g f e))
