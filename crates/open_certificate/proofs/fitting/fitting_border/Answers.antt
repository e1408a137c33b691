use Rattle.std.proofs.Common.{sym, ap, subst, ◌∙◌, ◌≡◌, true, false, length}
use Rattle.cert_state.specs.Progress.{IsAbove}
use Rattle.open_certificate.specs.Line.{border}
use Rattle.open_certificate.specs.Progress.{border_in}
use Rattle.open_certificate.specs.Walks.{FitsBorderLine}
use Rattle.open_certificate.proofs.BorderWalks.{border_of, border_ring, border_fits}
use Rattle.cert_state.proofs.Rings.{none_left}
use Rattle.open_certificate.proofs.fitting.fitting_border.Goals as goal

-- no row is listed
pub returns-in_default : goal.returns-in_default
returns-in_default c = λ at rs hr same h fits. subst (FitsBorderLine c.args.rows.now at) (none_left c.args.numbers.now rs c.in_default.ensures h) fits

pub returns-then-not-is_above : goal.returns-then-not-is_above
returns-then-not-is_above c = λ at rs hr same h fits.
    let k = border_of c.args.rows.now at c.args.numbers.now c.in-Some.others.now c.in-Some.first rs c.in-Some.ensures h fits in
    let e : false ≡ true = sym c.if-not-is_above.true ∙ c.is_above.ensures.1 (subst (λ o. IsAbove o c.in-Some.first) same k.2.rises) in
    cc

pub returns-in-Some-border_len : goal.returns-in-Some-border_len
returns-in-Some-border_len c = λ at rs hr same h.
    let k = border_fits c.args.rows.now at c.args.numbers.now c.in-Some.others.now c.in-Some.first c.in-Some-border_len.len rs c.in-Some.ensures h
    (subst (λ o. IsAbove o c.in-Some.first) (sym same) (c.is_above.ensures.0 c.if-not-is_above.false))
    (λ ms m. c.in-Some-border_len.ensures at.lone ms hr m) in
    (subst (FitsBorderLine c.args.rows.now at) (sym k.1) k.2, ap (λ xs. border_in (border xs)) k.1, ap (λ xs. length xs) k.1 ∙ k.3)

pub returns-in-None : goal.returns-in-None
returns-in-None c = λ at rs hr same h fits.
    let k = border_of c.args.rows.now at c.args.numbers.now c.in-Some.others.now c.in-Some.first rs c.in-Some.ensures h fits in
    c.in-None.ensures at.lone k.0 hr k.1 (border_ring c.args.rows.now at c.in-Some.first k.0 k.2)
