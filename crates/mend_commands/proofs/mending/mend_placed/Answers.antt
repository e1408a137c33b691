use Rattle.mend_commands.proofs.mending.mend_placed.Goals as goal

pub returns-in-Ok : goal.returns-in-Ok
returns-in-Ok c fares = c.by_shells.ensures c.args.file c.args.no fares c.in-Ok.ensures.found

pub returns-in-Err : goal.returns-in-Err
returns-in-Err c fares = c.not_extracted.ensures c.args.file c.args.no c.args.twice c.in-Err.ensures.fault
