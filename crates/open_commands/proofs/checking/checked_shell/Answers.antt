use Rattle.std.proofs.lemmas.Result.{err_from_is_err_and}
use Rattle.open_commands.proofs.Joining.{place_fault, loops_hold, loops_fault}
use Rattle.open_commands.proofs.Shells.{has_first, alone}
use Rattle.open_commands.proofs.checking.checked_shell.Goals as goal

pub shell_at-requires : goal.shell_at-requires
shell_at-requires c = has_first c.args.file c.args.no.0 c.in-Ok.solid c.in-Ok.ensures.solid

pub returns-in-Err-Fails-clause-fault : goal.returns-in-Err-Fails-clause-fault
returns-in-Err-Fails-clause-fault c =
    let only = rw c.in-Err-Fails.field-0-is at c.in-Err-Fails.ensures.fault in
    place_fault c.args.file c.args.no.0 c.in-Err-Fails.failing only

pub returns-in_err-join-clause-fault : goal.returns-in_err-join-clause-fault
returns-in_err-join-clause-fault c =
    let p = err_from_is_err_and c.from_residual.result c.from_residual.ensures.1 in
    rw (p.1, p.2)
    (loops_fault c.args.file c.args.no.0 c.in-Ok.solid c.in-Ok.ensures.solid c.in-Ok.ensures.holds c.shell_at.result.now
    (alone c.args.file c.args.no.0 c.in-Ok.solid c.in-Ok.ensures.solid c.shell_at.result.now c.shell_at.ensures)
    c.in_err-join.field-0.0 c.in_err-join.ensures.fails)

pub returns-clause-holds : goal.returns-clause-holds
returns-clause-holds c =
    loops_hold c.args.file c.args.no.0 c.in-Ok.solid c.in-Ok.ensures.solid c.in-Ok.ensures.holds c.shell_at.result.now
    (alone c.args.file c.args.no.0 c.in-Ok.solid c.in-Ok.ensures.solid c.shell_at.result.now c.shell_at.ensures) c.in_ok-join.ensures.holds
