use Rattle.std.proofs.Common.{arith, ap, ◌∙◌, ◌≡◌, ◌≤◌, length}
use Rattle.cert_lines.specs.Line.{line_limit}
use Rattle.topo_certificate.specs.Matching.{CheckerState}
use Rattle.topo_certificate.proofs.Checking.{not_so, one_solid}
use Rattle.topo_certificate.proofs.line_checker.LineChecker.next_part.Goals as goal

pub returns-then-not-may_end : goal.returns-then-not-may_end
returns-then-not-may_end c = λ first lines at n is begins. not_so c.may_end.result c.if-not-may_end.true ((c.may_end.ensures first lines at).1 begins.0)

pub returns-then-entity-number : goal.returns-then-entity-number
returns-then-entity-number c = λ first lines at.
    let limit : c.self.inside.limit ≡ line_limit c.args.self.now.solid = c.self.invariant.limit_is ∙ ap (λ (k : CheckerState). line_limit k.solid) c.self.view_is in
    let short : length c.args.line.now ≤ line_limit c.args.self.now.solid = omega (arith, c.in-Some.ensures.0, limit) in
    let entity : c.entity.result.0 ≡ c.args.self.now.solid.entity.0 = ap (λ e. e.0) c.entity.ensures.entity
    ∙ ap (λ (k : CheckerState). k.solid.entity.0) c.self.view_is in
    ((short, c.in-Some.ensures.1), ((c.may_end.ensures first lines at).0 c.if-not-may_end.false, omega (arith, entity, c.if-entity-number.true)))

pub returns-else-entity-number : goal.returns-else-entity-number
returns-else-entity-number c = λ first lines at n is begins.
    let entity : c.entity.result.0 ≡ c.args.self.now.solid.entity.0 = ap (λ e. e.0) c.entity.ensures.entity
    ∙ ap (λ (k : CheckerState). k.solid.entity.0) c.self.view_is in
    let same : n ≡ c.in-Some.number = one_solid c.args.line.now n c.in-Some.number is.1 c.in-Some.ensures.1 in
    omega (arith, entity, same, begins.1, c.if-entity-number.false)

pub returns-in_default : goal.returns-in_default
returns-in_default c = λ first lines at n is begins.
    let limit : c.self.inside.limit ≡ line_limit c.args.self.now.solid = c.self.invariant.limit_is ∙ ap (λ (k : CheckerState). line_limit k.solid) c.self.view_is in
    let short : length c.args.line.now ≤ c.self.inside.limit = omega (arith, is.0, limit) in
    c.in_default.ensures n (short, is.1)
