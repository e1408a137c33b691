use Rattle.std.proofs.lemmas.Result.{IfOk-weaker}
use Rattle.iges_solid_cmd.proofs.Outcomes.{contents_owed, file_not_bad, no_file_owed, told_no_file}
use Rattle.iges_solid_cmd.proofs.command.source_reply.Goals as goal

pub returns-in-Ok-clause-found : goal.returns-in-Ok-clause-found
returns-in-Ok-clause-found g c =
    let told = rw c.in-Ok.is at c.in_ok-file.ensures.found in
    IfOk-weaker c.file_reply.result _ _ (λ reply owed. contents_owed c.args.command _ _ c.in-Ok.file reply told owed) c.file_reply.ensures.found

pub returns-in-Ok-clause-no_file : goal.returns-in-Ok-clause-no_file
returns-in-Ok-clause-no_file g c bytes is none =
    let told = rw c.in-Ok.is at c.in_ok-file.ensures.found in
    absurd (told_no_file _ c.in-Ok.file bytes told is none)

pub returns-in-Ok-clause-bad_file : goal.returns-in-Ok-clause-bad_file
returns-in-Ok-clause-bad_file g c =
    IfOk-weaker c.file_reply.result _ _ (λ reply owed bad. absurd (file_not_bad c.args.command _ c.in-Ok.file reply owed bad)) c.file_reply.ensures.found

pub returns-in-Err-clause-found : goal.returns-in-Err-clause-found
returns-in-Err-clause-found g c =
    let owed = rw c.in-Err.is at c.in_ok-file.ensures.found in
    no_file_owed c.args.command _ _ c.in-Err.reply owed
