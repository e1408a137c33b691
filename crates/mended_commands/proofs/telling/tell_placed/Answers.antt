use Rattle.mended_commands.proofs.telling.tell_placed.Goals as goal

pub returns-in-Err : goal.returns-in-Err
returns-in-Err c = c.not_extracted.ensures c.args.file.now c.args.asked.no c.args.asked.twice c.args.dropped.now c.in-Err.ensures.fault
