use Rattle.open_shells.proofs.OpenRules.{fan_holds, fan_fails}
use Rattle.open_shells.proofs.judging.fanned.Goals as goal

pub returns-in-Ok-clause-holds : goal.returns-in-Ok-clause-holds
returns-in-Ok-clause-holds c = fan_holds c.args.solid.now c.args.mated.now c.in-Ok.ensures.fanned

pub returns-in-Err-NotFanned-clause-fails : goal.returns-in-Err-NotFanned-clause-fails
returns-in-Err-NotFanned-clause-fails c =
    let only = rw c.in-Err-NotFanned.field-0-is at c.in-Err-NotFanned.ensures.fault in
    fan_fails c.args.solid.now c.args.mated.now c.in-Err-NotFanned.vertex.0 c.not_fanned.result only (c.not_fanned.ensures c.args.mated.now)
