use Rattle.std.proofs.Common.{sym, ◌∙◌}
use Rattle.equal_values.proofs.Powers.{digit_more}
use Rattle.equal_values.proofs.exponent.power_of.Goals as goal

pub digits-preserved : goal.digits-preserved
digits-preserved c =
    digit_more c.unsigned-digits.result.now _ _ _ c.digits.invariant c.digits-test.true (sym c.is_ascii_digit.ensures.value ∙ c.if-is_ascii_digit.true)
    c.with_digit-value.ensures
