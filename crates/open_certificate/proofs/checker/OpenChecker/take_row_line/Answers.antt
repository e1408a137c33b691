use Rattle.std.proofs.Common.{arith, refl, sym, ap, ◌∙◌, subst, ◌≡◌, ◌+◌, true, false}
use Rattle.open_certificate.specs.CheckState.{OpenCheckerState, TakesLine}
use Rattle.open_certificate.proofs.Checking.{with_line, line_taken, line_refused, row_goes_on}
use Rattle.open_certificate.proofs.checker.OpenChecker.take_row_line.Goals as goal

pub returns-clause-line : goal.returns-clause-line
returns-clause-line c = λ line means spelled kind.
    let old : OpenCheckerState =
    record {
      solid = c.self.inside.solid.now;
      failed = c.self.inside.failed;
      number = c.self.inside.number;
      ended = c.self.inside.ended;
      shell =
          c.self.inside.shell;
    } in
    let going : c.self.inside.ended ≡ false = ap (λ (k : OpenCheckerState). k.ended) c.self.view_is ∙ c.requires in
    subst (λ k. TakesLine k (with_line old c.take.new.self (c.self.inside.number + 1)) line true) c.self.view_is
    (line_taken old c.take.new.self line (c.self.inside.number + 1) going (row_goes_on line kind) (c.if-not-take.ensures.line line means spelled kind) refl)

pub returns-then-not-take-clause-line : goal.returns-then-not-take-clause-line
returns-then-not-take-clause-line c = λ line means spelled kind.
    let old : OpenCheckerState =
    record {
      solid = c.self.inside.solid.now;
      failed = c.self.inside.failed;
      number = c.self.inside.number;
      ended = c.self.inside.ended;
      shell =
          c.self.inside.shell;
    } in
    subst (λ k. TakesLine k k line false) c.self.view_is (line_refused old old c.take.new.self line (c.if-not-take.ensures.line line means spelled kind))

pub invariant_of-self-2 : goal.invariant_of-self-2
invariant_of-self-2 c =
    let due = c.if-not-take.ensures.due refl in
    record {
      few = omega (arith, c.self.invariant.few, due);
      unended = λ e. omega (arith, c.self.invariant.unended e, due);
      unbegun = λ e. absurd (let none = c.self.invariant.unbegun (sym c.if-not-take.ensures.begun ∙ e) in omega (arith, none.1, due));
    }
