use Rattle.repair_commands.proofs.Outcomes.{mended_owed, no_mended_owed}
use Rattle.repair_commands.proofs.command.mended_reply.Goals as goal

pub returns-in_ok-mended_solid-in-Ok-clause-found : goal.returns-in_ok-mended_solid-in-Ok-clause-found
returns-in_ok-mended_solid-in-Ok-clause-found g c =
    mended_owed c.args.no c.args.choice _ c.in-Ok.file c.in_ok-mended_solid-in-Ok.field-0 (rw c.in-Ok.is at c.in_ok-file.ensures.found)
    c.in_ok-mended_solid-in-Ok.ensures

pub returns-in-Err-clause-found : goal.returns-in-Err-clause-found
returns-in-Err-clause-found g c = no_mended_owed c.args.no c.args.choice _ c.in-Err.reply (rw c.in-Err.is at c.in_ok-file.ensures.found)
