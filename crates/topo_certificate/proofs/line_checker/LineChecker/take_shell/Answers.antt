use Rattle.std.proofs.Common.{rules, refl, sym, ap, ◌∙◌, subst, arith, ◌≡◌, ◌<◌, ◌+◌, ◌-◌, ◌++◌, ◌∷◌, [], length, vec_len, true, false, Option}
use Rattle.std.specs.Prelude.{Some, slice_get}
use Rattle.std.specs.Option.{option_to_list}
use Rattle.cert_lines.specs.Line.{shell}
use Rattle.cert_state.specs.CheckState.{ShellCheckState}
use Rattle.topo_certificate.specs.Matching.{CheckerState}
use Rattle.topo_certificate.specs.Room.{dues_of, TakesLine}
use Rattle.topo_certificate.proofs.Checking.{with_shell, shell_begins, other_counts, popped_last, some_last}
use Rattle.topo_certificate.proofs.line_checker.LineChecker.take_shell.Goals as goal

pub returns-clause-line : goal.returns-clause-line
returns-clause-line c =
    let old : CheckerState =
    record {
      version = c.self.inside.version;
      solid = c.self.inside.solid.now;
      failed = c.self.inside.failed;
      number = c.self.inside.number;
      ended = c.self.inside.ended;
      shell = c.self.inside.shell;
      current = c.self.inside.current;
      waiting = c.self.inside.waiting.items;
    } in
    let next : ShellCheckState = c.in-Some.next.now in
    let there : slice_get old.waiting (length old.waiting - 1) ≡ Some next = search rules in
    let some : 0 < length old.waiting = some_last old.waiting next there in
    let long : length old.waiting ≡ vec_len c.self.inside.waiting = omega (arith, c.self.inside.waiting.ok.0) in
    let is_last : c.pop.result ≡ Some next = c.pop.ensures.value next (omega (arith, some, long))
    ∙ ap (λ k. Some k) (popped_last old.waiting (vec_len c.self.inside.waiting - 1) next next
    (subst (λ n. slice_get old.waiting (n - 1) ≡ Some next) long there)) in
    let popped : old.waiting ≡ c.pop.new.self.items ++ next ∷ [] = c.pop.ensures.items ∙ ap (λ (o : Option ShellCheckState). c.pop.new.self.items
    ++ option_to_list o) is_last in
    let going : c.self.inside.ended ≡ false = ap (λ (k : CheckerState). k.ended) c.self.view_is ∙ c.requires in
    let none : dues_of c.self.inside.current ≡ 0 = ap (λ (k : CheckerState). dues_of k.current) c.self.view_is ∙ c.is_done.ensures.0 c.if-not-is_done.false in
    rw is_last (subst (λ k. TakesLine k (with_shell old c.pop.new.self.items next c.args.number (c.self.inside.number + 1))
    (shell c.args.number c.args.counts.now) true) c.self.view_is
    (shell_begins old c.pop.new.self.items next c.args.number c.args.counts.now (c.self.inside.number + 1) going none (search rules) there popped
    (c.has_counts.ensures.0 c.if-not-has_counts.false) refl))

pub returns-then-not-has_counts-clause-line : goal.returns-then-not-has_counts-clause-line
returns-then-not-has_counts-clause-line c =
    let old : CheckerState =
    record {
      version = c.self.inside.version;
      solid = c.self.inside.solid.now;
      failed = c.self.inside.failed;
      number = c.self.inside.number;
      ended = c.self.inside.ended;
      shell = c.self.inside.shell;
      current = c.self.inside.current;
      waiting = c.self.inside.waiting.items;
    } in
    let there : slice_get old.waiting (length old.waiting - 1) ≡ Some c.in-Some.next.now = search rules in
    subst (λ k. TakesLine k k (shell c.args.number c.args.counts.now) false) c.self.view_is
    (other_counts old old c.in-Some.next.now c.args.number c.args.counts.now there
    (λ counts. let e : false ≡ true = sym c.if-not-has_counts.true ∙ c.has_counts.ensures.1 counts in cc))
