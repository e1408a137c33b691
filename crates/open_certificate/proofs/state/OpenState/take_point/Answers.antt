use Rattle.std.proofs.Common.{arith, subst, refl, ◌-◌, true, false}
use Rattle.open_certificate.specs.Line.{point}
use Rattle.open_certificate.specs.CheckState.{Takes}
use Rattle.open_certificate.specs.contracts.state.OpenState.{the_view}
use Rattle.open_certificate.proofs.Telling.{with_vertex, vertex_kept, point_takes, point_unfit}
use Rattle.open_certificate.proofs.state.OpenState.take_point.Goals as goal

pub returns-in_default-clause-line : goal.returns-in_default-clause-line
returns-in_default-clause-line c =
    subst (λ k. Takes k k (point c.args.face c.args.place) false) c.self.view_is
    (point_unfit (the_view c.self.inside) (the_view c.self.inside) c.args.face c.args.place (λ at same. c.in_default.ensures at same))

pub invariant_of-self : goal.invariant_of-self
invariant_of-self c = vertex_kept (the_view c.self.inside) c.in-Some.vertex.0 (c.self.inside.corners_due - 1) c.self.invariant
    (omega (arith, c.if-self-eq0.false)) refl

pub returns-clause-line : goal.returns-clause-line
returns-clause-line c =
    subst (λ k. Takes k (with_vertex (the_view c.self.inside) c.in-Some.vertex.0 (c.self.inside.corners_due - 1)) (point c.args.face c.args.place) true)
    c.self.view_is
    (point_takes (the_view c.self.inside) c.args.face c.args.place c.in-Some.vertex.0 (c.self.inside.corners_due - 1) c.self.invariant
    (omega (arith, c.if-self-ne0.false)) (omega (arith, c.if-self-eq0.false)) refl (λ at same. c.in-Some.ensures at same))
