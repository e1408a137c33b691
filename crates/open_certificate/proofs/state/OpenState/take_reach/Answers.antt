use Rattle.std.proofs.Common.{arith, subst, refl, sym, ◌-◌, true, false}
use Rattle.open_certificate.specs.Line.{reach}
use Rattle.cert_state.specs.CheckState.{HoldsMates, HoldsFaces}
use Rattle.open_certificate.specs.CheckState.{Takes}
use Rattle.open_certificate.specs.contracts.state.OpenState.{the_view}
use Rattle.open_certificate.proofs.Telling.{with_face, face_kept, reach_takes, reach_unfit}
use Rattle.open_certificate.proofs.state.OpenState.take_reach.Goals as goal

pub returns-in_default-clause-line : goal.returns-in_default-clause-line
returns-in_default-clause-line c =
    subst (λ k. Takes k k (reach c.args.row) false) c.self.view_is
    (reach_unfit (the_view c.self.inside) (the_view c.self.inside) c.args.row
    (λ at hm hf. c.in_default.ensures.fits at (subst (λ ms. HoldsMates ms at.mates) (sym c.deref.ensures.value) hm)
    (subst (λ fs. HoldsFaces fs at.reached) (sym c.deref-2.ensures.value) hf)))

pub invariant_of-self : goal.invariant_of-self
invariant_of-self c = face_kept (the_view c.self.inside) c.in-Some.face.0 (c.self.inside.reach_due - 1) c.self.invariant (omega (arith, c.if-self-eq0.false))
    refl

pub index_mut-requires : goal.index_mut-requires
index_mut-requires c = omega (arith, c.in-Some.ensures.known, c.self.invariant.each_face)

pub returns-clause-line : goal.returns-clause-line
returns-clause-line c =
    subst (λ k. Takes k (with_face (the_view c.self.inside) c.in-Some.face.0 (c.self.inside.reach_due - 1)) (reach c.args.row) true) c.self.view_is
    (reach_takes (the_view c.self.inside) c.args.row c.in-Some.face.0 (c.self.inside.reach_due - 1) c.self.invariant
    (omega (arith, c.in-Some.ensures.known, c.self.invariant.each_face)) (omega (arith, c.if-self-ne0.false))
    (omega (arith, c.if-self-ne0-2.false)) (omega (arith, c.if-self-eq0.false)) refl
    (λ at hm hf. c.in-Some.ensures.fits at (subst (λ ms. HoldsMates ms at.mates) (sym c.deref.ensures.value) hm)
    (subst (λ fs. HoldsFaces fs at.reached) (sym c.deref-2.ensures.value) hf)))
