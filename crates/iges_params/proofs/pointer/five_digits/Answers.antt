use Rattle.std.proofs.Common.{arith}
use Rattle.iges_params.proofs.Pointers.{five_digits}
use Rattle.iges_params.proofs.pointer.five_digits.Goals as goal

pub returns : goal.returns
returns c =
    let e_over = c.in_ok-over.ensures {u = tt} in
    let e_thousands = c.in_ok-thousands.ensures {u = tt} in
    let e_hundreds = c.in_ok-hundreds.ensures {u = tt} in
    let e_tens = c.in_ok-tens.ensures {u = tt} in
    let e_ones = c.in_ok-ones.ensures {u = tt} in
    five_digits c.args.word c.in_ok-over.over c.in_ok-thousands.thousands c.in_ok-hundreds.hundreds c.in_ok-tens.tens c.in_ok-ones.ones e_over.small
    e_thousands.small e_hundreds.small e_tens.small e_ones.small (omega arith) e_over.is e_thousands.is e_hundreds.is e_tens.is e_ones.is
