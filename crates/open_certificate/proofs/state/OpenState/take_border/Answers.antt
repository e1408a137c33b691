use Rattle.std.proofs.Common.{arith, subst, refl, sym, ◌-◌, true, false}
use Rattle.open_certificate.specs.Line.{border}
use Rattle.open_certificate.specs.CheckState.{Takes, HoldsRows}
use Rattle.open_certificate.specs.contracts.state.OpenState.{the_view}
use Rattle.open_certificate.proofs.Telling.{with_border, border_kept, border_takes, border_unfit}
use Rattle.open_certificate.proofs.state.OpenState.take_border.Goals as goal

pub returns-in_default-clause-line : goal.returns-in_default-clause-line
returns-in_default-clause-line c = λ rs h.
    subst (λ k. Takes k k (border rs) false) c.self.view_is
    (border_unfit (the_view c.self.inside) (the_view c.self.inside) rs
    (λ at hr same. c.in_default.ensures at rs (subst (λ ms. HoldsRows ms at.lone) (sym c.deref.ensures.value) hr) same h))

pub invariant_of-self : goal.invariant_of-self
invariant_of-self c = border_kept (the_view c.self.inside) c.in-Some.first (c.self.inside.borders_due - 1) c.saturating_add-bordered.result c.self.invariant
    (omega (arith, c.if-self-eq0.false)) refl

pub returns-clause-line : goal.returns-clause-line
returns-clause-line c = λ rs h.
    subst (λ k. Takes k (with_border (the_view c.self.inside) c.in-Some.first (c.self.inside.borders_due - 1) c.saturating_add-bordered.result) (border rs)
    true) c.self.view_is
    (border_takes (the_view c.self.inside) rs c.in-Some.first c.in-Some.len (c.self.inside.borders_due - 1) c.saturating_add-bordered.result c.self.invariant
    (omega (arith, c.if-self-ne0.false)) (omega (arith, c.if-self-ne0-2.false)) (omega (arith, c.if-self-ne0-3.false))
    (omega (arith, c.if-self-eq0.false)) refl c.saturating_add-bordered.ensures
    (λ at hr same. c.in-Some.ensures at rs (subst (λ ms. HoldsRows ms at.lone) (sym c.deref.ensures.value) hr) same h))
