use Rattle.std.proofs.Common.{◌≡◌, ◌∙◌, subst, sym, true, false}
use Rattle.cert_lines.specs.Line.{point}
use Rattle.cert_state.specs.Matching.{Takes}
use Rattle.cert_state.specs.contracts.shell_state.ShellState.{the_view}
use Rattle.cert_state.proofs.Telling.{with_vertex, point_not_due, point_takes, point_unfit}
use Rattle.cert_state.proofs.shell_state.ShellState.take_point.Goals as goal

pub returns-in_default-clause-line : goal.returns-in_default-clause-line
returns-in_default-clause-line c =
    subst (λ k. Takes k k (point c.args.face c.args.place) false) c.self.view_is
    (point_unfit (the_view c.self.inside) (the_view c.self.inside) c.args.face c.args.place (λ at same. c.in_default.ensures at same))

pub returns-clause-line : goal.returns-clause-line
returns-clause-line c =
    subst (λ k. Takes k (with_vertex (the_view c.self.inside) c.in-Some.vertex.0) (point c.args.face c.args.place) true) c.self.view_is
    (point_takes (the_view c.self.inside) c.args.face c.args.place c.in-Some.vertex.0 (c.has_corner.ensures.0 c.if-not-has_corner.false)
    (λ at same. c.in-Some.ensures at same))

pub returns-then-not-has_corner-clause-line : goal.returns-then-not-has_corner-clause-line
returns-then-not-has_corner-clause-line c =
    subst (λ k. Takes k k (point c.args.face c.args.place) false) c.self.view_is
    (point_not_due (the_view c.self.inside) (the_view c.self.inside) c.args.face c.args.place
    (λ due. (let e : false ≡ true = sym c.if-not-has_corner.true ∙ c.has_corner.ensures.1 due in cc)))
