use Rattle.std.proofs.Common.{rules}
use Rattle.std.proofs.lemmas.Result.{IfOk-weaker}
use Rattle.cert_lines.specs.Line.{cut_lines}
use Rattle.command_replies.specs.Texts.{illegal_line}
use Rattle.command_replies.specs.declared.answer.Answer.TheVariants.{No}
use Rattle.command_replies.proofs.Replying.{reply_owed}
use Rattle.open_commands.specs.Due.{OfOpenVerify, opening_bad, opened}
use Rattle.open_commands.specs.Opening.{IsBadOpening, OpensShell}
use Rattle.open_commands.proofs.verifying.text_reply.Goals as goal

pub returns-in-Err : goal.returns-in-Err
returns-in-Err c =
    let wrong : IsBadOpening c.args.certificate.now c.in-Err.bad = search rules in
    reply_owed (OfOpenVerify c.args.certificate.now c.args.file) No (illegal_line c.in-Err.bad) c.illegal.result (opening_bad c.requires c.in-Err.bad wrong)
    c.illegal.ensures

pub returns : goal.returns
returns c =
    let opens : OpensShell c.args.certificate.now c.in-Ok.opening.0.0 (cut_lines c.in-Ok.opening.1.now) = search rules in
    IfOk-weaker c.lines_reply.result _ _ (λ reply owed. opened c.requires _ _ opens owed) c.lines_reply.ensures
