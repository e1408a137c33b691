use Rattle.std.proofs.Common.{◌+◌, ◌/◌, ◌%◌, refl, arith}
use Rattle.iges_directory.proofs.FewDigits.{two_digits}
use Rattle.iges_directory.proofs.field.two_digits.Goals as goal

pub returns-then-tens-lt10 : goal.returns-then-tens-lt10
returns-then-tens-lt10 c =
    let e_ones = c.in_ok-ones.ensures {u = tt} in
    two_digits c.args.word ((c.args.word / 256 + 18437701552104792016) % 18446744073709551616) c.in_ok-ones.ones c.if-tens-lt10.true e_ones.small
    (omega (arith, c.ranges.word.fits, c.if-tens-lt10.true, e_ones.is, e_ones.small)) _ refl
