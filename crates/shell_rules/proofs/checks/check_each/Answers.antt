use Rattle.std.proofs.Common.{◌<◌, arith, length}
use Rattle.std.proofs.lemmas.Result.{err_from_is_err_and}
use Rattle.shell_rules.specs.ShellObligations.{checked_of_shell, checked_obligations}
use Rattle.shell_rules.proofs.Few.{few_parts}
use Rattle.shell_rules.proofs.Shells.{checked_from_first, one_shell, shell_fails, all_shells, only_memory, only_so, never}
use Rattle.shell_rules.proofs.checks.check_each.Goals as goal

pub shells-init : goal.shells-init
shells-init c = record {
  left = checked_from_first c.args.solid.now;
  before = c.none-before.ensures c.args.solid.now;
}

pub overflow_cast-at : goal.overflow_cast-at
overflow_cast-at c =
    let few : length c.args.solid.now.shells < 536870912 = (few_parts c.args.solid.now c.shell_count-k-end.ensures.numbered).few_shells in
    omega (arith, few, c.shell_count-k-end.ensures.count, c.shells-test.true)

pub returns-in_err-before-clause-fault : goal.returns-in_err-before-clause-fault
returns-in_err-before-clause-fault c =
    let p = err_from_is_err_and c.from_residual.result c.from_residual.ensures.1 in
    rw (p.1, p.2)
    (shell_fails (checked_of_shell c.args.solid.now) (checked_obligations c.args.solid.now) c.args.solid.now.shells c.shells.k c.shell_at-shell.result.now
    c.in_err-before.field-0.0 c.shell_at-shell.ensures c.shells.invariant.left c.in_err-before.ensures.fails)

pub returns-in_err-before-clause-only : goal.returns-in_err-before-clause-only
returns-in_err-before-clause-only c all =
    let p = err_from_is_err_and c.from_residual.result c.from_residual.ensures.1 in
    rw (p.1, p.2)
    (only_memory (checked_obligations c.args.solid.now) c.in_err-before.field-0.0
    (shell_fails (checked_of_shell c.args.solid.now) (checked_obligations c.args.solid.now) c.args.solid.now.shells c.shells.k c.shell_at-shell.result.now
    c.in_err-before.field-0.0 c.shell_at-shell.ensures c.shells.invariant.left c.in_err-before.ensures.fails) all)

pub returns-in_err-before-clause-only_fault : goal.returns-in_err-before-clause-only_fault
returns-in_err-before-clause-only_fault c x first =
    let p = err_from_is_err_and c.from_residual.result c.from_residual.ensures.1 in
    rw (p.1, p.2)
    (only_so (Unit {0}) (checked_obligations c.args.solid.now) c.in_err-before.field-0.0 x
    (shell_fails (checked_of_shell c.args.solid.now) (checked_obligations c.args.solid.now) c.args.solid.now.shells c.shells.k c.shell_at-shell.result.now
    c.in_err-before.field-0.0 c.shell_at-shell.ensures c.shells.invariant.left c.in_err-before.ensures.fails) first)

pub shells-preserved : goal.shells-preserved
shells-preserved c = record {
  left = one_shell (checked_of_shell c.args.solid.now) (checked_obligations c.args.solid.now) c.args.solid.now.shells c.shells.k c.shell_at-shell.result.now
      c.shell_at-shell.ensures c.shells.invariant.left c.in_ok-before.ensures.holds;
  before = c.in_ok-before.ensures.before;
}

pub returns-clause-only_fault : goal.returns-clause-only_fault
returns-clause-only_fault c x first =
    never (checked_obligations c.args.solid.now) x
    (all_shells (checked_of_shell c.args.solid.now) (checked_obligations c.args.solid.now) c.args.solid.now.shells c.shells.k
    (omega (arith, c.shell_count-k-end.ensures.count, c.shells-test.false)) c.shells.invariant.left) first
