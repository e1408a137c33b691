use Rattle.std.proofs.Common.{refl, ap, ◌∙◌, subst, ◌≡◌, ◌+◌, true, false}
use Rattle.open_certificate.specs.Line.{shell}
use Rattle.open_certificate.specs.CheckState.{OpenCheckerState, TakesLine}
use Rattle.open_certificate.proofs.Checking.{with_line, line_taken, line_refused}
use Rattle.open_certificate.proofs.checker.OpenChecker.take_shell.Goals as goal

pub returns-clause-line : goal.returns-clause-line
returns-clause-line c =
    let old : OpenCheckerState =
    record {
      solid = c.self.inside.solid.now;
      failed = c.self.inside.failed;
      number = c.self.inside.number;
      ended = c.self.inside.ended;
      shell =
          c.self.inside.shell;
    } in
    let going : c.self.inside.ended ≡ false = ap (λ (k : OpenCheckerState). k.ended) c.self.view_is ∙ c.requires in
    let w = c.args.words.now in
    subst (λ k. TakesLine k (with_line old c.take_shell.new.self (c.self.inside.number + 1)) (shell w.shell w.rows w.edges w.corners w.faces w.borders) true)
    c.self.view_is
    (line_taken old c.take_shell.new.self (shell w.shell w.rows w.edges w.corners w.faces w.borders) (c.self.inside.number + 1) going tt
    c.if-not-take_shell.ensures.line refl)

pub returns-then-not-take_shell-clause-line : goal.returns-then-not-take_shell-clause-line
returns-then-not-take_shell-clause-line c =
    let old : OpenCheckerState =
    record {
      solid = c.self.inside.solid.now;
      failed = c.self.inside.failed;
      number = c.self.inside.number;
      ended = c.self.inside.ended;
      shell =
          c.self.inside.shell;
    } in
    let w = c.args.words.now in
    subst (λ k. TakesLine k k (shell w.shell w.rows w.edges w.corners w.faces w.borders) false) c.self.view_is
    (line_refused old old c.take_shell.new.self (shell w.shell w.rows w.edges w.corners w.faces w.borders) c.if-not-take_shell.ensures.line)
