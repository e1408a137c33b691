use Rattle.std.proofs.Common.{sym, ◌∙◌, ◌≡◌, ◌+◌, ◌-◌, ap, arith, length, slice_get}
use Rattle.edge_uses.specs.Before.{above_of}
use Rattle.edge_uses.proofs.Above.{next_below, last_above, none_above}
use Rattle.edge_uses.proofs.before.VerticesBefore.with.Goals as goal

pub returns-in-Some : goal.returns-in-Some
returns-in-Some c s k numbered lt below rows =
    let greatest : above_of c.args.rows.now.vertices ≡ c.in-Some.last.now + 1 =
    last_above c.args.rows.now.vertices c.in-Some.last.now c.vertex_slice.ensures.kept.vertices_rise
    (ap (λ vs. slice_get vs (length vs - 1)) (sym c.vertex_slice.ensures.items) ∙ sym c.in-Some.ensures.value) in
    next_below s k c.args.self c.max.result c.args.rows.now numbered lt below rows (omega (arith, greatest, c.max.ensures, c.self.view_is))

pub returns-in-None : goal.returns-in-None
returns-in-None c s k numbered lt below rows =
    let none : above_of c.args.rows.now.vertices ≡ 0 =
    none_above c.args.rows.now.vertices (ap (λ vs. slice_get vs (length vs - 1)) (sym c.vertex_slice.ensures.items) ∙ sym c.in-None.ensures.value) in
    next_below s k c.args.self _ c.args.rows.now numbered lt below rows (omega (arith, none, c.self.view_is))
