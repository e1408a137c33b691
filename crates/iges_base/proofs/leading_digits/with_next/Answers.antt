use Rattle.std.proofs.Common.{◌≡◌, ℕ, ◌+◌, ◌-◌, ◌*◌, ◌^◌, subst, sym, ap, ◌∙◌, refl, arith}
use Rattle.std.specs.Char.{is_ascii_digit}
use Rattle.iges_base.specs.FrontDigits.{IsDigitsSoFar}
use Rattle.iges_base.proofs.FrontDigits.{digits_few, digit_from, digit_next}
use Rattle.iges_base.proofs.leading_digits.with_next.Goals as goal

pub overflow_mul-result : goal.overflow_mul-result
overflow_mul-result c =
    let limit : 10 ^ 18 ≡ 1000000000000000000 = refl in
    omega (arith, limit, digits_few c.args.text.now _ _ c.requires.digits)

pub overflow_add-result-2 : goal.overflow_add-result-2
overflow_add-result-2 c =
    let limit : 10 ^ 18 ≡ 1000000000000000000 = refl in
    let digit = digit_from c.from-digit.result _ c.from-digit.type_inv refl c.if-digit-gt9.false in
    let next = digit_next c.args.text.now c.args.digits.len c.args.digits.value c.requires.digits c.requires.within c.requires.few
    (ap is_ascii_digit (sym c.from-digit.ensures) ∙ digit.0) in
    omega (arith, digits_few c.args.text.now _ _ next, limit, c.from-digit.ensures, digit.1)

pub returns : goal.returns
returns c =
    let digit = digit_from c.from-digit.result _ c.from-digit.type_inv refl c.if-digit-gt9.false in (
      refl,
      subst (λ (number : ℕ). IsDigitsSoFar c.args.text.now (c.args.digits.len + 1) (c.args.digits.value * 10 + number))
          (sym (digit.1 ∙ ap (λ (byte : ℕ). byte - 48) c.from-digit.ensures))
          (digit_next c.args.text.now c.args.digits.len c.args.digits.value c.requires.digits c.requires.within c.requires.few
          (ap is_ascii_digit (sym c.from-digit.ensures) ∙ digit.0)),
    )
