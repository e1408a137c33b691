use Rattle.std.proofs.Common.{rules}
use Rattle.cert_lines.specs.Opening.{IsBadOpening}
use Rattle.command_replies.proofs.Replying.{reply_owed}
use Rattle.certificate_commands.specs.Due.{OfUpgrade, opening_bad}
use Rattle.certificate_commands.proofs.upgrading.upgrade_text.Goals as goal

pub returns-in-Err : goal.returns-in-Err
returns-in-Err c =
    let wrong : IsBadOpening c.args.certificate.now c.in-Err.bad = search rules in
    reply_owed (OfUpgrade c.args.certificate.now c.args.file) _ _ c.illegal.result (opening_bad c.requires c.in-Err.bad wrong) c.illegal.ensures

pub returns-then-is_of_one : goal.returns-then-is_of_one
returns-then-is_of_one c = c.upgrade_alone.ensures

pub returns : goal.returns
returns c = c.upgrade_book.ensures
