use Rattle.std.proofs.Common.{arith, get_or, refl}
use Rattle.std.proofs.lemmas.Int.Digits.{digits_more}
use Rattle.cert_text.proofs.Digits.{digit_above, few_digits, more_digits, worth}
use Rattle.cert_text.proofs.number.digits_among.Goals as goal

pub overflow_mul-value : goal.overflow_mul-value
overflow_mul-value c = omega (arith, few_digits c.args.text.now c.digits.i c.digits.invariant.digits (omega arith) (omega arith))

pub overflow_add-value : goal.overflow_add-value
overflow_add-value c = omega (arith, few_digits c.args.text.now c.digits.i c.digits.invariant.digits (omega arith) (omega arith), c.type_inv.text c.digits.i)

pub digits-preserved : goal.digits-preserved
digits-preserved c =
    let byte = get_or c.args.text.now c.digits.i 0 in
    let digit = digit_above byte c.from-digit.result _ c.from-digit.ensures (omega (arith, c.type_inv.text c.digits.i)) refl (omega (arith, c.if-digit-gt9.false)) in
    record {
      digits = digits_more 10 c.args.text.now c.digits.i (omega arith) c.digits.invariant.digits (omega (arith, worth byte digit.0, digit.0));
      value = more_digits c.args.text.now c.digits.i c.digits.value _ (omega arith) c.digits.invariant.value digit.1 digit.0;
    }
