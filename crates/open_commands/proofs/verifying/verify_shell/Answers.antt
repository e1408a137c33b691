use Rattle.cert_text.specs.declared.TheConstants.{CERT_LIMIT}
use Rattle.command_replies.proofs.Replying.{too_large_owed}
use Rattle.open_commands.specs.Due.{OfOpenVerify, certificate_too_large}
use Rattle.open_commands.proofs.verifying.verify_shell.Goals as goal

pub returns-in-Err-clause-found : goal.returns-in-Err-clause-found
returns-in-Err-clause-found g c = too_large_owed CERT_LIMIT (λ certificate. OfOpenVerify certificate c.args.file) _ c.in-Err.reply
    (λ certificate more. certificate_too_large more) (rw c.in-Err.is at c.in_ok-bytes.ensures.found)
