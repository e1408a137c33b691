use Rattle.mend_commands.proofs.mending.mend_misplaced.Goals as goal

pub returns-in-Ok : goal.returns-in-Ok
returns-in-Ok c = c.by_naming.ensures c.args.file c.requires (rw c.in-Ok.is at c.without_twice-found.ensures)
