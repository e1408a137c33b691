use Rattle.std.proofs.Common.{arith, refl, ap, ◌∙◌, ◌≡◌, ◌≤◌, length}
use Rattle.cert_lines.specs.Line.{line_limit}
use Rattle.topo_certificate.specs.Matching.{CheckerState}
use Rattle.topo_certificate.proofs.Checking.{line_refused}
use Rattle.topo_certificate.proofs.line_checker.LineChecker.judge_line.Goals as goal

pub returns-then-take-clause-line : goal.returns-then-take-clause-line
returns-then-take-clause-line c = λ first lines at.
    let x = c.in-Spelled.ensures in
    let t = c.if-take.ensures.line x.0 x.1 x.2.1.0 first lines at in
    let limit : c.self.inside.limit ≡ line_limit c.args.self.now.solid = c.self.invariant.limit_is ∙ ap (λ (k : CheckerState). line_limit k.solid) c.self.view_is in
    let short : length c.args.line.now ≤ line_limit c.args.self.now.solid = omega (arith, x.2.0, limit) in
    (x.0, (short, x.2.1), t.0, t.1)

pub returns-else-take-clause-line : goal.returns-else-take-clause-line
returns-else-take-clause-line c = λ first lines at.
    let x = c.in-Spelled.ensures in
    let limit : c.self.inside.limit ≡ line_limit c.args.self.now.solid = c.self.invariant.limit_is ∙ ap (λ (k : CheckerState). line_limit k.solid) c.self.view_is in
    let short : length c.args.line.now ≤ line_limit c.args.self.now.solid = omega (arith, x.2.0, limit) in
    line_refused c.args.self.now c.fail-else-take-2.new.self c.args.line.now x.0 c.fail-else-take.inside.number c.fail-else-take-2.result _ first lines at
    (short, x.2.1) (c.if-take.ensures.line x.0 x.1 x.2.1.0 first lines at)
    (ap (λ (k : CheckerState). k.number) c.fail-else-take.view_is ∙ c.if-take.ensures.number refl) c.fail-else-take-2.ensures.fault
    c.fail-else-take-2.ensures.failed
