use Rattle.mend_commands.proofs.naming.refused_by.Goals as goal

pub returns-in-Refused : goal.returns-in-Refused
returns-in-Refused c f n x is = rw c.in-Refused.is at is
