use Rattle.shell_rules.proofs.Rules.{link_holds, link_fails}
use Rattle.cert_maker.proofs.judging.linked.Goals as goal

pub returns-in-Ok-clause-holds : goal.returns-in-Ok-clause-holds
returns-in-Ok-clause-holds c = link_holds c.args.solid.now c.args.paired.now c.in-Ok.ensures.linked

pub returns-in-Err-Broken-clause-fails : goal.returns-in-Err-Broken-clause-fails
returns-in-Err-Broken-clause-fails c =
    let only = rw c.in-Err-Broken.field-0-is at c.in-Err-Broken.ensures.fault in
    link_fails c.args.solid.now c.args.paired.now c.in-Err-Broken.vertex.0 c.at_vertex.result only c.at_vertex.ensures
