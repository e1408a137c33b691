use Rattle.std.proofs.Common.{◌≡◌, ◌∙◌, arith, subst, sym, true, false}
use Rattle.cert_lines.specs.Line.{reach}
use Rattle.cert_state.specs.CheckState.{HoldsMates, HoldsFaces}
use Rattle.cert_state.specs.Matching.{Takes}
use Rattle.cert_state.specs.contracts.shell_state.ShellState.{the_view}
use Rattle.cert_state.proofs.Telling.{with_face, reach_not_due, reach_takes, reach_unfit}
use Rattle.cert_state.proofs.shell_state.ShellState.take_reach.Goals as goal

pub returns-in_default-clause-line : goal.returns-in_default-clause-line
returns-in_default-clause-line c =
    subst (λ k. Takes k k (reach c.args.row) false) c.self.view_is
    (reach_unfit (the_view c.self.inside) (the_view c.self.inside) c.args.row
    (λ at hm hf. c.in_default.ensures.fits at (subst (λ ms. HoldsMates ms at.mates) (sym c.deref.ensures.value) hm)
    (subst (λ fs. HoldsFaces fs at.reached) (sym c.deref-2.ensures.value) hf)))

pub index_mut-requires : goal.index_mut-requires
index_mut-requires c = omega (arith, c.in-Some.ensures.known, c.self.invariant.each_face)

pub returns-clause-line : goal.returns-clause-line
returns-clause-line c =
    subst (λ k. Takes k (with_face (the_view c.self.inside) c.in-Some.face.0) (reach c.args.row) true) c.self.view_is
    (reach_takes (the_view c.self.inside) c.args.row c.in-Some.face.0 (omega (arith, c.in-Some.ensures.known, c.self.invariant.each_face))
    (c.has_reach.ensures.0 c.if-not-has_reach.false)
    (λ at hm hf. c.in-Some.ensures.fits at (subst (λ ms. HoldsMates ms at.mates) (sym c.deref.ensures.value) hm)
    (subst (λ fs. HoldsFaces fs at.reached) (sym c.deref-2.ensures.value) hf)))

pub returns-then-not-has_reach-clause-line : goal.returns-then-not-has_reach-clause-line
returns-then-not-has_reach-clause-line c =
    subst (λ k. Takes k k (reach c.args.row) false) c.self.view_is
    (reach_not_due (the_view c.self.inside) (the_view c.self.inside) c.args.row
    (λ due. (let e : false ≡ true = sym c.if-not-has_reach.true ∙ c.has_reach.ensures.1 due in cc)))
