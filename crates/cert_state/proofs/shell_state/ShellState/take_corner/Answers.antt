use Rattle.std.proofs.Common.{◌≡◌, ◌∙◌, subst, sym, true, false}
use Rattle.cert_lines.specs.Line.{corner}
use Rattle.cert_state.specs.CheckState.{HoldsMates}
use Rattle.cert_state.specs.Matching.{Takes}
use Rattle.cert_state.specs.contracts.shell_state.ShellState.{the_view}
use Rattle.cert_state.proofs.Telling.{with_vertex, corner_not_due, corner_takes, corner_unfit}
use Rattle.cert_state.proofs.shell_state.ShellState.take_corner.Goals as goal

pub returns-in_default-clause-line : goal.returns-in_default-clause-line
returns-in_default-clause-line c = λ rs h.
    subst (λ k. Takes k k (corner rs) false) c.self.view_is
    (corner_unfit (the_view c.self.inside) (the_view c.self.inside) rs
    (λ at hm same. c.in_default.ensures at rs (subst (λ ms. HoldsMates ms at.mates) (sym c.deref-2.ensures.value) hm) same h))

pub returns-clause-line : goal.returns-clause-line
returns-clause-line c = λ rs h.
    subst (λ k. Takes k (with_vertex (the_view c.self.inside) c.in-Some.vertex.0) (corner rs) true) c.self.view_is
    (corner_takes (the_view c.self.inside) rs c.in-Some.vertex.0 (c.has_corner.ensures.0 c.if-not-has_corner.false)
    (λ at hm same. c.in-Some.ensures at rs (subst (λ ms. HoldsMates ms at.mates) (sym c.deref-2.ensures.value) hm) same h))

pub returns-then-not-has_corner-clause-line : goal.returns-then-not-has_corner-clause-line
returns-then-not-has_corner-clause-line c = λ rs h.
    subst (λ k. Takes k k (corner rs) false) c.self.view_is
    (corner_not_due (the_view c.self.inside) (the_view c.self.inside) rs
    (λ due. (let e : false ≡ true = sym c.if-not-has_corner.true ∙ c.has_corner.ensures.1 due in cc)))
