use Rattle.std.proofs.Common.{refl, rules}
use Rattle.iges_write.proofs.FileBack.{one_text}
use Rattle.command_replies.proofs.Owing.{owed_so}
use Rattle.file_replies.specs.Written.{OfWritten, too_large, written}
use Rattle.file_replies.proofs.writing.written_by.Goals as goal

pub returns-in-Ok : goal.returns-in-Ok
returns-in-Ok c = search (rules, written)

pub returns-in-Err-TooLarge : goal.returns-in-Err-TooLarge
returns-in-Err-TooLarge c =
    let one = one_text c.args.file in
    let large = rw c.in-Err-TooLarge.field-0-is at c.in-Err-TooLarge.ensures.large in
    owed_so (OfWritten c.args.file) _ _ _ _ (too_large one.0 one.1 (large refl one.0 one.1)) c.too_large.ensures.0 c.too_large.ensures.1
