use Rattle.std.proofs.Common.{rules, [], ◌≡◌}
use Rattle.cert_state.proofs.Rings.{whole_before}
use Rattle.cert_state.proofs.corners.fitting_corner.Goals as goal

pub returns-then-is_empty : goal.returns-then-is_empty
returns-then-is_empty c = λ at rs hm same a.
    let f = c.in-Some.ensures.fits at rs [] hm same (whole_before c.args.numbers.now rs a) in
    (f.0, f.1)

pub returns-else-is_empty : goal.returns-else-is_empty
returns-else-is_empty c = λ at rs hm same a fits.
    let f = c.in-Some.ensures.fits at rs [] hm same (whole_before c.args.numbers.now rs a) in
    let none : c.in-Some.rest.now ≡ [] = f.2 in
    search (rules, none)

pub returns-in_default : goal.returns-in_default
returns-in_default c = λ at rs hm same a. c.in_default.ensures.fits at rs [] hm same (whole_before c.args.numbers.now rs a)
