use Rattle.std.proofs.Common.{arith}
use Rattle.iges_fields.proofs.PlainIntegers.{no_space_first}
use Rattle.iges_fields.proofs.PlainWords.{also}
use Rattle.iges_fields.proofs.plain_word.unsigned_real.Goals as goal

pub returns : goal.returns
returns c = also _ _ c.real_len.result c.real_len.ensures (no_space_first c.args.text.now c.args.digits.len
    (omega (arith, c.if-digits-eq0.false)) c.requires.within c.requires.all)
