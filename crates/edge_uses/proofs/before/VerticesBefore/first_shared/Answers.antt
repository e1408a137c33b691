use Rattle.std.proofs.Common.{sym, ◌∙◌, ap, arith, slice_get}
use Rattle.edge_uses.proofs.Above.{least_shared, none_shared}
use Rattle.edge_uses.proofs.before.VerticesBefore.first_shared.Goals as goal

pub returns-then-least-self : goal.returns-then-least-self
returns-then-least-self c s k below rows =
    least_shared s k c.args.self c.in_ok-least.field-0.now c.args.rows.now.vertices below
    (ap (λ vs. slice_get vs 0) (sym c.vertex_slice.ensures.items) ∙ sym c.in_ok-least.ensures.value) (omega (arith, c.self.view_is))

pub returns-else-least-self : goal.returns-else-least-self
returns-else-least-self c s k below rows =
    none_shared s k c.args.self c.in_ok-least.field-0.now c.args.rows.now.vertices c.vertex_slice.ensures.kept.vertices_rise below
    (ap (λ vs. slice_get vs 0) (sym c.vertex_slice.ensures.items) ∙ sym c.in_ok-least.ensures.value) (omega (arith, c.self.view_is))
