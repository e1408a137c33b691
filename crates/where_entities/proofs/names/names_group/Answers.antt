use Rattle.where_entities.proofs.names.names_group.Goals as goal

pub returns-in-Err : goal.returns-in-Err
returns-in-Err c = c.without_group.ensures (c.args.entry.now, c.args.values.now) c.in-Err.ensures.err
