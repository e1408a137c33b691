use Rattle.std.proofs.Common.{refl}
use Rattle.command_replies.specs.Due.{OfText, text_done}
use Rattle.command_replies.proofs.Owing.{owed_so}
use Rattle.certificate_commands.proofs.upgrading.upgrade_book.Goals as goal

pub returns-in_ok-copy-in-None : goal.returns-in_ok-copy-in-None
returns-in_ok-copy-in-None c =
    let kept = rw c.in-None.is at (c.in_ok-reply.ensures {u = tt}) in
    kept _ _ (owed_so (OfText c.args.certificate.now) _ _ _ _ (text_done c.requires.few) refl c.in_ok-copy-in-None.ensures)

pub returns-in-Some : goal.returns-in-Some
returns-in-Some c = rw c.in-Some.is at (c.in_ok-reply.ensures {u = tt})
