use Rattle.std.proofs.Common.{sym, ◌∙◌, ◌≡◌, true, false}
use Rattle.cert_state.proofs.CornerFits.{point_fits, point_not_alone, point_low, alone_there}
use Rattle.cert_state.proofs.corners.fitting_point.Goals as goal

pub returns-then-not-alone-i : goal.returns-then-not-alone-i
returns-then-not-alone-i c = λ at same.
    point_not_alone c.args.rows.now at c.args.face c.args.place c.in-Some.i (c.point_at.result.0, c.point_at.result.1.0) c.in-Some.ensures c.point_at.ensures
    (sym (alone_there c.args.rows.now c.args.alone.now c.in-Some.i (c.point_at.result.0, c.point_at.result.1.0) false c.requires.alone c.point_at.ensures)
    ∙ c.if-not-alone-i.true)

pub returns-then-is_above : goal.returns-then-is_above
returns-then-is_above c = λ at same.
    point_fits c.args.rows.now at c.args.alone.now c.args.face c.args.place c.in-Some.i (c.point_at.result.0, c.point_at.result.1.0) c.args.last
    c.in-Some.ensures c.point_at.ensures
    (sym (alone_there c.args.rows.now c.args.alone.now c.in-Some.i (c.point_at.result.0, c.point_at.result.1.0) false c.requires.alone c.point_at.ensures)
    ∙ c.if-not-alone-i.false) same (c.is_above.ensures.0 c.if-is_above.true)

pub returns-else-is_above : goal.returns-else-is_above
returns-else-is_above c = λ at same.
    point_low c.args.rows.now at c.args.face c.args.place c.in-Some.i (c.point_at.result.0, c.point_at.result.1.0) c.args.last c.in-Some.ensures
    c.point_at.ensures same
    (λ above. let e : false ≡ true = sym c.if-is_above.false ∙ c.is_above.ensures.1 above in cc)
