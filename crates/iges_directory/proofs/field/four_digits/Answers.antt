use Rattle.std.proofs.Common.{◌+◌, ◌/◌, ◌%◌, refl, arith}
use Rattle.iges_directory.proofs.FewDigits.{four_digits}
use Rattle.iges_directory.proofs.field.four_digits.Goals as goal

pub returns-then-thousands-lt10 : goal.returns-then-thousands-lt10
returns-then-thousands-lt10 c =
    let e_hundreds = c.in_ok-hundreds.ensures {u = tt} in
    let e_tens = c.in_ok-tens.ensures {u = tt} in
    let e_ones = c.in_ok-ones.ensures {u = tt} in
    four_digits c.args.word ((c.args.word / 16777216 + 18446743935731621840) % 18446744073709551616) c.in_ok-hundreds.hundreds c.in_ok-tens.tens
    c.in_ok-ones.ones c.if-thousands-lt10.true e_hundreds.small e_tens.small e_ones.small
    (omega (arith, c.ranges.word.fits, c.if-thousands-lt10.true, e_hundreds.is, e_hundreds.small, e_tens.is, e_tens.small, e_ones.is, e_ones.small)) _ refl
