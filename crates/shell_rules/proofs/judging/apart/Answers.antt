use Rattle.shell_rules.proofs.Rules.{apart_holds, apart_fails}
use Rattle.shell_rules.proofs.judging.apart.Goals as goal

pub returns-in-Some-clause-fails : goal.returns-in-Some-clause-fails
returns-in-Some-clause-fails c =
    apart_fails c.args.solid.now c.args.at.0 c.args.rows.now c.in-Some.vertex.0 c.at_vertex.result
    (c.in-Some.ensures c.args.solid.now c.args.at.0 c.requires.before c.requires.rows) c.at_vertex.ensures

pub returns-in-None-clause-holds : goal.returns-in-None-clause-holds
returns-in-None-clause-holds c =
    apart_holds c.args.solid.now c.args.at.0 c.args.rows.now (c.in-None.ensures c.args.solid.now c.args.at.0 c.requires.before c.requires.rows)
