use Rattle.mend_commands.proofs.naming.without_twice.Goals as goal

pub returns-in-Err : goal.returns-in-Err
returns-in-Err c = c.refused_by.ensures c.args.file.now c.args.no c.args.failing c.in-Err.ensures.fault
