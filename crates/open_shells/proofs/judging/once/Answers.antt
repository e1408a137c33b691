use Rattle.open_shells.proofs.OpenRules.{edge_holds, edge_fails}
use Rattle.open_shells.proofs.judging.once.Goals as goal

pub returns-in-Ok-clause-holds : goal.returns-in-Ok-clause-holds
returns-in-Ok-clause-holds c = edge_holds c.args.solid.now c.args.rows.now c.in-Ok.ensures.once

pub returns-in-Err-NotOnce-clause-fails : goal.returns-in-Err-NotOnce-clause-fails
returns-in-Err-NotOnce-clause-fails c =
    let only = rw c.in-Err-NotOnce.field-0-is at c.in-Err-NotOnce.ensures.fault in
    edge_fails c.args.solid.now c.args.rows.now c.in-Err-NotOnce.edge.0 c.not_once.result only (c.not_once.ensures c.args.rows.now)
