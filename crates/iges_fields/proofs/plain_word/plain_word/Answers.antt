use Rattle.std.proofs.Common.{refl}
use Rattle.iges_base.proofs.Signed.{front_digits}
use Rattle.iges_fields.proofs.plain_word.plain_word.Goals as goal

pub whole_word-requires-clause-digits : goal.whole_word-requires-clause-digits
whole_word-requires-clause-digits c =
    front_digits c.args.body.now c.unsigned-unsigned.result.now c.unsigned-unsigned.ensures c.digits_of-digits.result.len c.split_at.result.1.now
    c.split_at.ensures.back c.digits_of-digits.result refl c.digits_of-digits.ensures
