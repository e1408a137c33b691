use Rattle.std.proofs.Common.{sym, ◌∙◌}
use Rattle.iges_base.proofs.EightDigits.{all_eight}
use Rattle.iges_base.proofs.leading_digits.are_eight_digits.Goals as goal

pub returns : goal.returns
returns c all =
    sym (all_eight c.args.text.now c.requires _ _ _ _ _ _ _ _ c.is_ascii_digit.ensures.value c.is_ascii_digit-2.ensures.value c.is_ascii_digit-3.ensures.value
    c.is_ascii_digit-4.ensures.value
    c.is_ascii_digit-5.ensures.value c.is_ascii_digit-6.ensures.value c.is_ascii_digit-7.ensures.value c.is_ascii_digit-8.ensures.value) ∙ all
