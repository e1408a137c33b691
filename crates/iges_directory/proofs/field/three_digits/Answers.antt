use Rattle.std.proofs.Common.{◌+◌, ◌/◌, ◌%◌, refl, arith}
use Rattle.iges_directory.proofs.FewDigits.{three_digits}
use Rattle.iges_directory.proofs.field.three_digits.Goals as goal

pub returns-then-hundreds-lt10 : goal.returns-then-hundreds-lt10
returns-then-hundreds-lt10 c =
    let e_tens = c.in_ok-tens.ensures {u = tt} in
    let e_ones = c.in_ok-ones.ensures {u = tt} in
    three_digits c.args.word ((c.args.word / 65536 + 18446708751359533008) % 18446744073709551616) c.in_ok-tens.tens c.in_ok-ones.ones c.if-hundreds-lt10.true
    e_tens.small e_ones.small (omega (arith, c.ranges.word.fits, c.if-hundreds-lt10.true, e_tens.is, e_tens.small, e_ones.is, e_ones.small)) _ refl
