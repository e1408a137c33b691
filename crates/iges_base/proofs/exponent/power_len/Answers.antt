use Rattle.std.proofs.Common.{sym, ◌∙◌, arith}
use Rattle.std.proofs.lemmas.List.{take_rest}
use Rattle.iges_base.proofs.Signed.{power_is}
use Rattle.iges_base.proofs.exponent.power_len.Goals as goal

pub returns-clause-power : goal.returns-clause-power
returns-clause-power c =
    power_is c.args.text.now _ _ c.digits_len-len.result c.in-len1-up.len_at_least (take_rest c.args.text.now 1) c.unsigned-digits.ensures
    (sym c.is_letter.ensures ∙ c.if-not-is_letter.false) (omega (arith, c.if-len-eq0.false)) c.digits_len-len.ensures.within c.digits_len-len.ensures.all
