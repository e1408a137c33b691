use Rattle.std.proofs.Common.{refl, ap, ◌∙◌, subst, ◌≡◌, ◌+◌, true, false}
use Rattle.topo_certificate.specs.Matching.{CheckerState}
use Rattle.topo_certificate.specs.Room.{TakesLine}
use Rattle.topo_certificate.proofs.Checking.{with_current, row_line_taken, row_line_refused}
use Rattle.topo_certificate.proofs.line_checker.LineChecker.take_row_line.Goals as goal

pub returns-clause-line : goal.returns-clause-line
returns-clause-line c = λ line means spelled kind.
    let old : CheckerState =
    record {
      version = c.self.inside.version;
      solid = c.self.inside.solid.now;
      failed = c.self.inside.failed;
      number = c.self.inside.number;
      ended = c.self.inside.ended;
      shell = c.self.inside.shell;
      current = c.self.inside.current;
      waiting = c.self.inside.waiting.items;
    } in
    let going : c.self.inside.ended ≡ false = ap (λ (k : CheckerState). k.ended) c.self.view_is ∙ c.requires in
    subst (λ k. TakesLine k (with_current old c.take.new.self (c.self.inside.number + 1)) line true) c.self.view_is
    (row_line_taken old c.in-Some.current c.take.new.self line (c.self.inside.number + 1) going c.in-Some.is kind
    (c.if-not-take.ensures.line line means spelled kind) refl)

pub returns-then-not-take-clause-line : goal.returns-then-not-take-clause-line
returns-then-not-take-clause-line c = λ line means spelled kind.
    let old : CheckerState =
    record {
      version = c.self.inside.version;
      solid = c.self.inside.solid.now;
      failed = c.self.inside.failed;
      number = c.self.inside.number;
      ended = c.self.inside.ended;
      shell = c.self.inside.shell;
      current = c.self.inside.current;
      waiting = c.self.inside.waiting.items;
    } in
    subst (λ k. TakesLine k k line false) c.self.view_is
    (row_line_refused old old c.in-Some.current c.take.new.self line c.in-Some.is (c.if-not-take.ensures.line line means spelled kind))
