use Rattle.cert_text.specs.declared.TheConstants.{CERT_LIMIT}
use Rattle.command_replies.proofs.Replying.{too_large_owed}
use Rattle.certificate_commands.specs.Due.{OfUpgrade, certificate_too_large}
use Rattle.certificate_commands.proofs.upgrading.upgrade_certificate.Goals as goal

pub returns-in-Err-clause-found : goal.returns-in-Err-clause-found
returns-in-Err-clause-found g c =
    let large = rw c.in-Err.is at (c.in_ok-bytes.ensures {u = tt}).found in
    too_large_owed CERT_LIMIT (λ certificate. OfUpgrade certificate c.args.file) _ c.in-Err.reply (λ bytes many. certificate_too_large many) large
