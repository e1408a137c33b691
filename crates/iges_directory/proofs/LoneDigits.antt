-- Seven spaces and a digit, as one number.
use Rattle.std.proofs.Common.{◌≡◌, ℕ, zero, suc, ◌+◌, ◌<◌, ◌%◌, pos, Some, refl, sym, ap, ◌∙◌, arith, w64, ◌^◌}
use mir.Val.{hbits, to_z}
use Rattle.std.specs.Int.{to_be_bytes}
use Rattle.std.proofs.lemmas.Int.{to_z_pos}
use Rattle.iges_base.specs.Word.{column_number}

digit_at : (d : ℕ) → d < 10 → column_number (to_be_bytes w64 (2314885530818453552 + d)) ≡ Some (pos d)
digit_at zero h = refl
digit_at (suc zero) h = refl
digit_at (suc (suc zero)) h = refl
digit_at (suc (suc (suc zero))) h = refl
digit_at (suc (suc (suc (suc zero)))) h = refl
digit_at (suc (suc (suc (suc (suc zero))))) h = refl
digit_at (suc (suc (suc (suc (suc (suc zero)))))) h = refl
digit_at (suc (suc (suc (suc (suc (suc (suc zero))))))) h = refl
digit_at (suc (suc (suc (suc (suc (suc (suc (suc zero)))))))) h = refl
digit_at (suc (suc (suc (suc (suc (suc (suc (suc (suc zero))))))))) h = refl
digit_at (suc (suc (suc (suc (suc (suc (suc (suc (suc (suc d)))))))))) h = let no : ⊥ = omega arith in absurd no

-- the word above that of seven spaces and 0
pub digit_above : (word d : ℕ) → word < 2 ^ 64 → d ≡ (word + 16131858542891098064) % 18446744073709551616 → d < 10 →
    column_number (to_be_bytes w64 word) ≡ Some (to_z w64 d)
digit_above word d fits is h =
    let word_is : word ≡ 2314885530818453552 + d = omega (arith, fits, is, h) in
    let small : d < 2 ^ hbits w64 = omega (arith, h) in
    ap (λ (w : ℕ). column_number (to_be_bytes w64 w)) word_is ∙ digit_at d h ∙ ap Some (sym (to_z_pos w64 d small))
