use Rattle.where_command.proofs.Outcomes.{contents_owed, no_file_owed}
use Rattle.where_command.proofs.command.source_reply.Goals as goal

pub returns-in_ok-contents_reply-in-Ok-clause-found : goal.returns-in_ok-contents_reply-in-Ok-clause-found
returns-in_ok-contents_reply-in-Ok-clause-found g c =
    let told = rw c.in-Ok.is at c.in_ok-placed.ensures.found in
    contents_owed c.args.asked _ c.in-Ok.placed c.in_ok-contents_reply-in-Ok.field-0 told c.in_ok-contents_reply-in-Ok.ensures

pub returns-in-Err-clause-found : goal.returns-in-Err-clause-found
returns-in-Err-clause-found g c =
    let owed = rw c.in-Err.is at c.in_ok-placed.ensures.found in
    no_file_owed c.args.asked _ c.in-Err.reply owed
