use Rattle.std.proofs.Common.{◌≡◌, ◌∙◌, ◌+◌, ◌-◌, Some, ap, arith, length, slice_get, sym}
use Rattle.edge_uses.specs.Before.{above_of}
use Rattle.edge_uses.proofs.Above.{next_below, last_above}
use Rattle.solid_faults.proofs.SharedSteps.{empty_above}
use Rattle.solid_faults.proofs.shared.below_next.Goals as goal

pub returns-then-count-eq0 : goal.returns-then-count-eq0
returns-then-count-eq0 c s k numbered lt below rows =
    let none : above_of c.args.rows.now.vertices ≡ 0 = empty_above c.args.rows.now.vertices (sym c.vertex_count-count.ensures ∙ c.if-count-eq0.true) in
    next_below s k c.args.below c.args.below c.args.rows.now numbered lt below rows (omega (arith, none))

pub returns : goal.returns
returns c s k numbered lt below rows =
    let last : slice_get c.args.rows.now.vertices (length c.args.rows.now.vertices - 1) ≡ Some c.vertex_at-last.result.0 =
    ap (λ n. slice_get c.args.rows.now.vertices (n - 1)) (sym c.vertex_count-count.ensures) ∙ c.vertex_at-last.ensures in
    let greatest : above_of c.args.rows.now.vertices ≡ c.vertex_at-last.result.0 + 1 = last_above c.args.rows.now.vertices c.vertex_at-last.result.0
    c.len-kept.ensures.kept.vertices_rise last in
    next_below s k c.args.below c.max.result c.args.rows.now numbered lt below rows (omega (arith, greatest, c.max.ensures))
