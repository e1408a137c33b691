use Rattle.shell_rules.proofs.Rules.{unreached_there}
use Rattle.open_shells.proofs.OpenRules.{reach_holds, reach_fails}
use Rattle.open_shells.proofs.judging.reached.Goals as goal

pub unreached-requires : goal.unreached-requires
unreached-requires c =
    let only = rw c.in-Err-Unreached.field-0-is at c.in-Err-Unreached.ensures.fault in
    unreached_there c.args.shell.now c.args.mated.now c.in-Err-Unreached.face.0 c.requires only

pub returns-in-Ok-clause-holds : goal.returns-in-Ok-clause-holds
returns-in-Ok-clause-holds c = reach_holds c.args.shell.now c.args.mated.now c.requires c.in-Ok.ensures.rows.reached

pub returns-in-Err-Unreached-clause-fails : goal.returns-in-Err-Unreached-clause-fails
returns-in-Err-Unreached-clause-fails c =
    let only = rw c.in-Err-Unreached.field-0-is at c.in-Err-Unreached.ensures.fault in
    reach_fails c.args.shell.now c.args.mated.now c.in-Err-Unreached.face.0 c.unreached.result c.requires only c.unreached.ensures
