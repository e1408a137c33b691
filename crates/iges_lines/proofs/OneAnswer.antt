-- What a function reads exactly has one reading.
use Rattle.std.proofs.Common.{◌≡◌, inl, inr, Result, Ok, Err, refl, sym, ◌∙◌}
use Rattle.iges_base.proofs.Answers.{ok_is, err_is, clash}
use Rattle.iges_lines.specs.OneReading.{HasOneReading}

module _ {X F : Type 0} (IsRight : X → Type 0) (IsFault : F → Type 0) (read : Result X F) (right : (x : X) → read ≡ Ok x → IsRight x) (all_right : (x : X) →
    IsRight x → read ≡ Ok x)
    (fault : (f : F) → read ≡ Err f → IsFault f) (all_faults : (f : F) → IsFault f → read ≡ Err f) where
  by_read : (r : Result X F) → read ≡ r → HasOneReading IsRight IsFault
  by_read (Ok x) e = inl (x, (right x e, λ y h. ok_is y x (sym (all_right y h) ∙ e)), λ f h. clash f x (sym (all_faults f h) ∙ e))
  by_read (Err f) e = inr (f, (fault f e, λ g h. err_is g f (sym (all_faults g h) ∙ e)), λ x h. clash f x (sym e ∙ all_right x h))

  pub one_reading : HasOneReading IsRight IsFault
  one_reading = by_read read refl
