use Rattle.std.proofs.Common.{rules, sym, subst, ◌∙◌, ◌≡◌, true, false}
use Rattle.cert_state.proofs.CornerFits.{size_there, size_below}
use Rattle.open_certificate.proofs.PathFits.{path_of, path_no_row, path_low, path_fits, path_other_size}
use Rattle.cert_state.proofs.Rings.{none_left}
use Rattle.open_certificate.specs.Walks.{FitsPathLine}
use Rattle.open_certificate.proofs.fitting.fitting_path.Goals as goal

-- no row is listed
pub returns-in_default : goal.returns-in_default
returns-in_default c = λ at rs hm hr same h fits. subst (FitsPathLine c.args.rows.now at) (none_left c.args.numbers.now rs c.in_default.ensures h) fits

pub returns-in_default-named_row : goal.returns-in_default-named_row
returns-in_default-named_row c = λ at rs hm hr same h fits.
    let k = path_of c.args.rows.now at c.args.numbers.now c.in-Some.others.now c.in-Some.first rs c.in-Some.ensures h fits in
    path_no_row c.args.rows.now at c.in-Some.first k.0 (search rules) k.2

pub returns-then-not-is_above : goal.returns-then-not-is_above
returns-then-not-is_above c = λ at rs hm hr same h fits.
    let k = path_of c.args.rows.now at c.args.numbers.now c.in-Some.others.now c.in-Some.first rs c.in-Some.ensures h fits in
    path_low c.args.rows.now at c.in-Some.first k.0 c.in-Some-named_row.row c.args.last (search rules) same
    (λ above. let e : false ≡ true = sym c.if-not-is_above.true ∙ c.is_above.ensures.1 above in cc) k.2

pub returns-in_default-path_end : goal.returns-in_default-path_end
returns-in_default-path_end c = λ at rs hm hr same h fits.
    let k = path_of c.args.rows.now at c.args.numbers.now c.in-Some.others.now c.in-Some.first rs c.in-Some.ensures h fits in
    c.in_default-path_end.ensures at.mates k.0 hm k.1 k.2.turns

pub returns-then-not-is_marked : goal.returns-then-not-is_marked
returns-then-not-is_marked c = λ at rs hm hr same h fits.
    let k = path_of c.args.rows.now at c.args.numbers.now c.in-Some.others.now c.in-Some.first rs c.in-Some.ensures h fits in
    let p = c.in-Some-path_end.ensures at.mates k.0 hm k.1 in
    let marked = (hr c.in-Some-path_end.end).0 (rw p.1 k.2.ends) in
    let e : false ≡ true = sym c.if-not-is_marked.true ∙ c.is_marked.ensures.1 marked in
    cc

pub bounds-sizes-first : goal.bounds-sizes-first
bounds-sizes-first c = size_below c.args.rows.now c.args.sizes.now c.in-Some.first c.in-Some-named_row.row c.requires (search rules)

pub returns-then-sizes-first : goal.returns-then-sizes-first
returns-then-sizes-first c = λ at rs hm hr same h.
    path_fits c.args.rows.now at c.args.numbers.now c.in-Some.others.now c.in-Some.first c.in-Some-path_end.end rs c.in-Some-named_row.row c.args.last
    c.in-Some-path_end.len c.in-Some.ensures h (search rules) same
    (c.is_above.ensures.0 c.if-not-is_above.false) ((hr c.in-Some-path_end.end).1 (c.is_marked.ensures.0 c.if-not-is_marked.false))
    (λ ms k. c.in-Some-path_end.ensures at.mates ms hm k)
    (sym (size_there c.args.rows.now c.args.sizes.now c.in-Some.first _ c.in-Some-named_row.row c.requires (search rules)) ∙ c.if-sizes-first.true)

pub returns-else-sizes-first : goal.returns-else-sizes-first
returns-else-sizes-first c = λ at rs hm hr same h fits.
    let k = path_of c.args.rows.now at c.args.numbers.now c.in-Some.others.now c.in-Some.first rs c.in-Some.ensures h fits in
    path_other_size c.args.rows.now at c.in-Some.first k.0 c.in-Some-named_row.row c.in-Some-path_end.len (search rules)
    (λ e. c.if-sizes-first.false (size_there c.args.rows.now c.args.sizes.now c.in-Some.first _ c.in-Some-named_row.row c.requires (search rules) ∙ e))
    (c.in-Some-path_end.ensures at.mates k.0 hm k.1).2 k.2
