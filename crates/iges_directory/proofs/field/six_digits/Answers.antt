use Rattle.std.proofs.Common.{◌+◌, ◌/◌, ◌%◌, refl, arith}
use Rattle.iges_directory.proofs.FewDigits.{six_digits}
use Rattle.iges_directory.proofs.field.six_digits.Goals as goal

pub returns-then-over-lt10 : goal.returns-then-over-lt10
returns-then-over-lt10 c =
    let e_above = c.in_ok-above.ensures {u = tt} in
    let e_thousands = c.in_ok-thousands.ensures {u = tt} in
    let e_hundreds = c.in_ok-hundreds.ensures {u = tt} in
    let e_tens = c.in_ok-tens.ensures {u = tt} in
    let e_ones = c.in_ok-ones.ensures {u = tt} in
    six_digits c.args.word ((c.args.word / 1099511627776 + 18446744073707446224) % 18446744073709551616) c.in_ok-above.above c.in_ok-thousands.thousands
    c.in_ok-hundreds.hundreds c.in_ok-tens.tens c.in_ok-ones.ones c.if-over-lt10.true e_above.small e_thousands.small e_hundreds.small e_tens.small
    e_ones.small (omega (
      arith,
      c.ranges.word.fits,
      c.if-over-lt10.true,
      e_above.is,
      e_above.small,
      e_thousands.is,
      e_thousands.small,
      e_hundreds.is,
      e_hundreds.small,
      e_tens.is,
      e_tens.small,
      e_ones.is,
      e_ones.small,
    )) _ refl
