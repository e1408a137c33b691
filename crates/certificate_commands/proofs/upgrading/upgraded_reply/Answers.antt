use Rattle.std.proofs.Common.{refl, subst, List, ℕ, ◌≤◌, length}
use Rattle.cert_text.specs.declared.TheConstants.{CERT_LIMIT}
use Rattle.topo_certificate.specs.Upgraded.{upgraded}
use Rattle.command_replies.specs.Due.{OfText, text_done, text_too_large}
use Rattle.command_replies.proofs.Owing.{owed_so}
use Rattle.certificate_commands.proofs.upgrading.upgraded_reply.Goals as goal

pub returns-in-Ok : goal.returns-in-Ok
returns-in-Ok c =
    let few = subst (λ (t : List ℕ). length t ≤ CERT_LIMIT) c.in-Ok.ensures.text c.in-Ok.ensures.within in
    owed_so (OfText (upgraded c.args.solid.now c.args.certificate.now)) _ _ _ _ (text_done few) refl c.in-Ok.ensures.text

pub returns-in-Err-TooLarge : goal.returns-in-Err-TooLarge
returns-in-Err-TooLarge c =
    let many = rw c.in-Err-TooLarge.field-0-is at c.in-Err-TooLarge.ensures.fault in
    owed_so (OfText (upgraded c.args.solid.now c.args.certificate.now)) _ _ _ _ (text_too_large many) c.too_large.ensures.0 c.too_large.ensures.1
