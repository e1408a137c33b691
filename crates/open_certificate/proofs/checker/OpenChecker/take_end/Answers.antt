use Rattle.std.proofs.Common.{arith, refl, sym, ap, ◌∙◌, subst, ◌≡◌, ◌+◌, true, false}
use Rattle.open_certificate.specs.Line.{end}
use Rattle.open_certificate.specs.CheckState.{OpenCheckerState, TakesLine}
use Rattle.open_certificate.proofs.Checking.{with_end, end_comes, end_refused}
use Rattle.open_certificate.proofs.checker.OpenChecker.take_end.Goals as goal

pub returns-clause-line : goal.returns-clause-line
returns-clause-line c =
    let old : OpenCheckerState =
    record {
      solid = c.self.inside.solid.now;
      failed = c.self.inside.failed;
      number = c.self.inside.number;
      ended = c.self.inside.ended;
      shell =
          c.self.inside.shell;
    } in
    let going : c.self.inside.ended ≡ false = ap (λ (k : OpenCheckerState). k.ended) c.self.view_is ∙ c.requires in
    subst (λ k. TakesLine k (with_end old (c.self.inside.number + 1)) end true) c.self.view_is
    (end_comes old (c.self.inside.number + 1) going (λ s lines t. (c.is_done.ensures.done s lines t).0 c.if-not-is_done.false) refl)

pub returns-then-not-is_done-clause-line : goal.returns-then-not-is_done-clause-line
returns-then-not-is_done-clause-line c =
    let old : OpenCheckerState =
    record {
      solid = c.self.inside.solid.now;
      failed = c.self.inside.failed;
      number = c.self.inside.number;
      ended = c.self.inside.ended;
      shell =
          c.self.inside.shell;
    } in
    subst (λ k. TakesLine k k end false) c.self.view_is
    (end_refused old old (λ s lines t done. let e : false ≡ true = sym c.if-not-is_done.true ∙ (c.is_done.ensures.done s lines t).1 done in cc))

pub invariant_of-self : goal.invariant_of-self
invariant_of-self c =
    let going : c.self.inside.ended ≡ false = ap (λ (k : OpenCheckerState). k.ended) c.self.view_is ∙ c.requires in
    record {
      few = omega (arith, c.self.invariant.unended going);
      unended = λ e. absurd (let h : true ≡ false = e in cc);
      unbegun = λ e. absurd (let h : true ≡ false = sym (c.is_done.ensures.begun c.if-not-is_done.false) ∙ e in cc);
    }
