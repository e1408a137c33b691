use Rattle.std.proofs.Common.{refl, subst, ◌+◌}
use Rattle.topo_certificate.specs.Matching.{CheckerState}
use Rattle.topo_certificate.specs.Part.{TakesNextLine}
use Rattle.topo_certificate.proofs.Checking.{with_current}
use Rattle.topo_certificate.proofs.NextLines.{next_taken}
use Rattle.topo_certificate.proofs.line_checker.LineChecker.take_next.Goals as goal

pub returns-clause-line : goal.returns-clause-line
returns-clause-line c =
    let old : CheckerState =
    record {
      version = c.self.inside.version;
      solid = c.self.inside.solid.now;
      failed = c.self.inside.failed;
      number = c.self.inside.number;
      ended = c.self.inside.ended;
      shell = c.self.inside.shell;
      current = c.self.inside.current;
      waiting = c.self.inside.waiting.items;
    } in
    subst (λ k. TakesNextLine k (with_current old c.take_next.new.self (c.self.inside.number + 1)) c.args.text.now c.in-Some-take_next.after.now) c.self.view_is
    (next_taken old c.in-Some.current c.take_next.new.self c.self.inside.limit (c.self.inside.number + 1) c.args.text.now c.in-Some-take_next.after.now
    c.if-self.false c.in-Some.is c.self.invariant.limit_is refl c.in-Some-take_next.ensures.line)
