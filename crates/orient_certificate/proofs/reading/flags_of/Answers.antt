use Rattle.std.proofs.Common.{refl, arith}
use Rattle.orient_certificate.proofs.Lines.{no_flags}
use Rattle.orient_certificate.proofs.reading.flags_of.Goals as goal

pub returns-in_default : goal.returns-in_default
returns-in_default c = no_flags c.args.numbers.now c.numbers.i _ (omega (arith, c.numbers-test.true)) refl c.in_default.ensures
