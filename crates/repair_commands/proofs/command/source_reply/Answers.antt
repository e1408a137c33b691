use Rattle.repair_commands.proofs.command.source_reply.Goals as goal

pub returns-in-Lines-clause-found : goal.returns-in-Lines-clause-found
returns-in-Lines-clause-found g c = rw c.in-Lines.is c.lines_reply.ensures.found

pub returns-in-Reorient-clause-found : goal.returns-in-Reorient-clause-found
returns-in-Reorient-clause-found g c = rw c.in-Reorient.is c.solid_reply.ensures.found

pub returns-in-Mend-clause-found : goal.returns-in-Mend-clause-found
returns-in-Mend-clause-found g c = rw c.in-Mend.is c.mend_reply.ensures.found

pub returns-in-Mended-clause-found : goal.returns-in-Mended-clause-found
returns-in-Mended-clause-found g c = rw c.in-Mended.is c.mended_reply.ensures.found
