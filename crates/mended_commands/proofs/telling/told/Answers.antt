use Rattle.std.proofs.Common.{refl}
use Rattle.iges_write.proofs.FileBack.{one_text}
use Rattle.command_replies.proofs.Owing.{owed_so}
use Rattle.mended_commands.specs.Due.{OfTold, told_so, too_large}
use Rattle.mended_commands.proofs.telling.told.Goals as goal

pub returns-in-Ok : goal.returns-in-Ok
returns-in-Ok c = told_so c.in-Ok.field-0 c.in-Ok.ensures.found c.in-Ok.ensures.within

pub returns-in-Err-TooLarge : goal.returns-in-Err-TooLarge
returns-in-Err-TooLarge c =
    let one = one_text c.args.file.now in
    let large = rw c.in-Err-TooLarge.field-0-is at c.in-Err-TooLarge.ensures.large in
    owed_so (OfTold c.args.file.now c.args.text) _ _ _ _ (too_large one.0 one.1 (large refl one.0 one.1)) c.too_large.ensures.0 c.too_large.ensures.1
