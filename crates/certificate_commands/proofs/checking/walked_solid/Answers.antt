use Rattle.std.proofs.lemmas.Result.{err_from_is_err_and}
use Rattle.cert_accept.proofs.CheckedParts.{place_fault, shells_hold, shells_fault}
use Rattle.certificate_commands.proofs.checking.walked_solid.Goals as goal

pub returns-in-Err-Fails-clause-fault : goal.returns-in-Err-Fails-clause-fault
returns-in-Err-Fails-clause-fault c =
    let only = rw c.in-Err-Fails.field-0-is at c.in-Err-Fails.ensures.fault in
    rw c.in-Err-Fails.field-0-is (place_fault c.args.walker.now c.args.no.0 c.in-Err-Fails.failing only)

pub returns-in_err-check_shells-clause-fault : goal.returns-in_err-check_shells-clause-fault
returns-in_err-check_shells-clause-fault c =
    let p = err_from_is_err_and c.from_residual.result c.from_residual.ensures.1 in
    rw (p.1, p.2) (shells_fault c.args.walker.now c.args.no.0 c.in-Ok.solid c.in-Ok.ensures.solid c.in-Ok.ensures.holds c.in_err-check_shells.field-0.0
    c.in_err-check_shells.ensures.fault)

pub returns-clause-holds : goal.returns-clause-holds
returns-clause-holds c = shells_hold c.args.walker.now c.args.no.0 c.in-Ok.solid c.in-Ok.ensures.solid c.in-Ok.ensures.holds c.in_ok-check_shells.ensures.holds
