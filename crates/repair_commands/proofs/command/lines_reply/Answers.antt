use Rattle.std.proofs.Common.{inl}
use Rattle.iges_base.specs.declared.TheConstants.{FILE_LIMIT}
use Rattle.command_replies.proofs.Replying.{too_large_owed}
use Rattle.repair_commands.specs.Due.{OfLines, file_too_large}
use Rattle.repair_commands.proofs.Outcomes.{bytes_owed}
use Rattle.repair_commands.proofs.command.lines_reply.Goals as goal

pub returns-in_ok-bytes_reply-in-Ok-clause-found : goal.returns-in_ok-bytes_reply-in-Ok-clause-found
returns-in_ok-bytes_reply-in-Ok-clause-found g c =
    let within = rw c.in-Ok.is at c.in_ok-bytes.ensures.found in
    bytes_owed c.args.command _ _ _ c.in_ok-bytes_reply-in-Ok.field-0 within.told c.as_slice.ensures c.in_ok-bytes_reply-in-Ok.ensures

pub returns-in-Err-clause-found : goal.returns-in-Err-clause-found
returns-in-Err-clause-found g c = too_large_owed FILE_LIMIT (OfLines c.args.command) _ c.in-Err.reply (λ bytes more. inl (file_too_large more))
    (rw c.in-Err.is at c.in_ok-bytes.ensures.found)
