use Rattle.std.proofs.Common.{rules, sym, subst, ◌∙◌, ◌≡◌, true, false}
use Rattle.cert_state.proofs.CornerFits.{corner_of, corner_no_row, corner_low, corner_ring, corner_fits, corner_other_size, size_there, size_below}
use Rattle.cert_state.specs.Ring.{FitsCornerLine}
use Rattle.cert_state.proofs.Rings.{none_before, corner_begins}
use Rattle.cert_state.proofs.corners.read_corner.Goals as goal

-- no row is listed
pub returns-in_default-clause-fits : goal.returns-in_default-clause-fits
returns-in_default-clause-fits c = λ at rs stop hm same h fits. subst (FitsCornerLine c.args.rows.now at) (none_before c.args.text.now rs stop c.in_default.ensures h).0 fits

pub returns-in_default-named_row-clause-fits : goal.returns-in_default-named_row-clause-fits
returns-in_default-named_row-clause-fits c = λ at rs stop hm same h fits.
    let k = corner_of c.args.rows.now at c.args.text.now c.in-Some.others.now c.in-Some.first rs stop c.in-Some.ensures h fits in
    corner_no_row c.args.rows.now at c.in-Some.first k.0 (search rules) k.2

pub returns-then-not-is_above-clause-fits : goal.returns-then-not-is_above-clause-fits
returns-then-not-is_above-clause-fits c = λ at rs stop hm same h fits.
    let k = corner_of c.args.rows.now at c.args.text.now c.in-Some.others.now c.in-Some.first rs stop c.in-Some.ensures h fits in
    corner_low c.args.rows.now at c.in-Some.first k.0 c.in-Some-named_row.row c.args.last (search rules) same
    (λ above. let e : false ≡ true = sym c.if-not-is_above.true ∙ c.is_above.ensures.1 above in cc) k.2

pub returns-in_default-ring_len-clause-fits : goal.returns-in_default-ring_len-clause-fits
returns-in_default-ring_len-clause-fits c = λ at rs stop hm same h fits.
    let k = corner_of c.args.rows.now at c.args.text.now c.in-Some.others.now c.in-Some.first rs stop c.in-Some.ensures h fits in
    c.in_default-ring_len.ensures.ring at.mates k.0 stop hm k.1 (corner_ring c.args.rows.now at c.in-Some.first k.0 k.2)

pub bounds-sizes-first : goal.bounds-sizes-first
bounds-sizes-first c = size_below c.args.rows.now c.args.sizes.now c.in-Some.first c.in-Some-named_row.row c.requires (search rules)

pub returns-then-sizes-first-clause-fits : goal.returns-then-sizes-first-clause-fits
returns-then-sizes-first-clause-fits c = λ at rs stop hm same h.
    corner_fits c.args.rows.now at c.args.text.now c.in-Some.others.now c.in-Some.first rs stop c.in-Some-ring_len.rest.now c.in-Some-named_row.row c.args.last c.in-Some-ring_len.len
    c.in-Some.ensures h (search rules) same (c.is_above.ensures.0 c.if-not-is_above.false)
    (λ ms k. c.in-Some-ring_len.ensures.ring at.mates ms stop hm k)
    (sym (size_there c.args.rows.now c.args.sizes.now c.in-Some.first _ c.in-Some-named_row.row c.requires (search rules)) ∙ c.if-sizes-first.true)

pub returns-else-sizes-first-clause-fits : goal.returns-else-sizes-first-clause-fits
returns-else-sizes-first-clause-fits c = λ at rs stop hm same h fits.
    let k = corner_of c.args.rows.now at c.args.text.now c.in-Some.others.now c.in-Some.first rs stop c.in-Some.ensures h fits in
    corner_other_size c.args.rows.now at c.in-Some.first k.0 c.in-Some-named_row.row c.in-Some-ring_len.len (search rules)
    (λ e. c.if-sizes-first.false (size_there c.args.rows.now c.args.sizes.now c.in-Some.first _ c.in-Some-named_row.row c.requires (search rules) ∙ e))
    (c.in-Some-ring_len.ensures.ring at.mates k.0 stop hm k.1).1 k.2

pub returns-then-sizes-first-clause-numbers : goal.returns-then-sizes-first-clause-numbers
returns-then-sizes-first-clause-numbers c = corner_begins c.args.text.now c.in-Some.others.now c.in-Some-ring_len.rest.now c.in-Some.first c.in-Some.ensures
    c.in-Some-ring_len.ensures.numbers
