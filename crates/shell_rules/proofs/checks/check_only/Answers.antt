use Rattle.std.proofs.lemmas.Result.{err_from_is_err_and}
use Rattle.shell_rules.specs.ShellObligations.{checked_obligations}
use Rattle.shell_rules.specs.declared.fault.CheckFault.TheVariants.{Fails}
use Rattle.shell_rules.proofs.CheckedShell.{only_shell_holds, only_shell_fails}
use Rattle.shell_rules.proofs.Shells.{only_memory, only_so, never}
use Rattle.shell_rules.proofs.checks.check_only.Goals as goal

pub returns-in_err-join-clause-fault : goal.returns-in_err-join-clause-fault
returns-in_err-join-clause-fault c =
    let p = err_from_is_err_and c.from_residual.result c.from_residual.ensures.1 in
    rw (p.1, p.2) (only_shell_fails c.args.solid.now c.shell_at.result.now c.shell_at.ensures c.in_err-join.field-0.0 c.in_err-join.ensures.fails)

pub returns-in_err-join-clause-only : goal.returns-in_err-join-clause-only
returns-in_err-join-clause-only c all =
    let p = err_from_is_err_and c.from_residual.result c.from_residual.ensures.1 in
    rw (p.1, p.2) (only_memory (checked_obligations c.args.solid.now) (Fails c.in_err-join.field-0.0)
    (only_shell_fails c.args.solid.now c.shell_at.result.now c.shell_at.ensures c.in_err-join.field-0.0 c.in_err-join.ensures.fails) all)

pub returns-in_err-join-clause-only_fault : goal.returns-in_err-join-clause-only_fault
returns-in_err-join-clause-only_fault c x first =
    let p = err_from_is_err_and c.from_residual.result c.from_residual.ensures.1 in
    rw (p.1, p.2)
    (only_so (Unit {0}) (checked_obligations c.args.solid.now) (Fails c.in_err-join.field-0.0) x
    (only_shell_fails c.args.solid.now c.shell_at.result.now c.shell_at.ensures c.in_err-join.field-0.0 c.in_err-join.ensures.fails) first)

pub returns-clause-holds : goal.returns-clause-holds
returns-clause-holds c = only_shell_holds c.args.solid.now c.shell_at.result.now c.shell_at.ensures c.requires c.in_ok-join.ensures.holds

pub returns-clause-only_fault : goal.returns-clause-only_fault
returns-clause-only_fault c x first =
    never (checked_obligations c.args.solid.now) x
    (only_shell_holds c.args.solid.now c.shell_at.result.now c.shell_at.ensures c.requires c.in_ok-join.ensures.holds) first
