use Rattle.shell_rules.proofs.Rules.{pair_holds, pair_fails}
use Rattle.cert_maker.proofs.judging.mated.Goals as goal

pub returns-in-Ok-clause-holds : goal.returns-in-Ok-clause-holds
returns-in-Ok-clause-holds c = pair_holds c.args.solid.now c.args.rows.now c.in-Ok.ensures.paired

pub returns-in-Err-Unpaired-clause-fails : goal.returns-in-Err-Unpaired-clause-fails
returns-in-Err-Unpaired-clause-fails c =
    let only = rw c.in-Err-Unpaired.field-0-is at c.in-Err-Unpaired.ensures.fault in
    pair_fails c.args.solid.now c.args.rows.now c.in-Err-Unpaired.edge.0 c.unpaired.result only c.unpaired.ensures
