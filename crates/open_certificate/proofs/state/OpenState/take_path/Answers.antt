use Rattle.std.proofs.Common.{arith, subst, refl, sym, ◌-◌, true, false}
use Rattle.open_certificate.specs.Line.{path}
use Rattle.cert_state.specs.CheckState.{HoldsMates}
use Rattle.open_certificate.specs.CheckState.{Takes, HoldsRows}
use Rattle.open_certificate.specs.contracts.state.OpenState.{the_view}
use Rattle.open_certificate.proofs.Telling.{with_vertex, vertex_kept, path_takes, path_unfit}
use Rattle.open_certificate.proofs.state.OpenState.take_path.Goals as goal

pub returns-in_default-clause-line : goal.returns-in_default-clause-line
returns-in_default-clause-line c = λ rs h.
    subst (λ k. Takes k k (path rs) false) c.self.view_is
    (path_unfit (the_view c.self.inside) (the_view c.self.inside) rs
    (λ at hm hr same. c.in_default.ensures at rs (subst (λ ms. HoldsMates ms at.mates) (sym c.deref-2.ensures.value) hm)
    (subst (λ ms. HoldsRows ms at.lone) (sym c.deref-3.ensures.value) hr) same h))

pub invariant_of-self : goal.invariant_of-self
invariant_of-self c = vertex_kept (the_view c.self.inside) c.in-Some.vertex.0 (c.self.inside.corners_due - 1) c.self.invariant
    (omega (arith, c.if-self-eq0.false)) refl

pub returns-clause-line : goal.returns-clause-line
returns-clause-line c = λ rs h.
    subst (λ k. Takes k (with_vertex (the_view c.self.inside) c.in-Some.vertex.0 (c.self.inside.corners_due - 1)) (path rs) true) c.self.view_is
    (path_takes (the_view c.self.inside) rs c.in-Some.vertex.0 (c.self.inside.corners_due - 1) c.self.invariant (omega (arith, c.if-self-ne0.false))
    (omega (arith, c.if-self-eq0.false)) refl
    (λ at hm hr same. c.in-Some.ensures at rs (subst (λ ms. HoldsMates ms at.mates) (sym c.deref-2.ensures.value) hm)
    (subst (λ ms. HoldsRows ms at.lone) (sym c.deref-3.ensures.value) hr) same h))
