use Rattle.std.proofs.Common.{rules}
use Rattle.std.proofs.lemmas.Result.{IfOk-weaker}
use Rattle.cert_lines.specs.Line.{cut_lines}
use Rattle.command_replies.specs.Texts.{illegal_line}
use Rattle.command_replies.specs.declared.answer.Answer.TheVariants as answer
use Rattle.command_replies.proofs.Replying.{reply_owed}
use Rattle.orient_commands.specs.Due.{OfOrientVerify, head_bad, named}
use Rattle.orient_commands.specs.Text.{IsBadHead, Names}
use Rattle.orient_commands.proofs.verifying.text_reply.Goals as goal

pub returns-in-Ok : goal.returns-in-Ok
returns-in-Ok c =
    let names : Names c.args.text.now c.in-Ok.no.0 (cut_lines c.in-Ok.rest.now) = search rules in
    IfOk-weaker c.solid_reply.result _ _ (λ reply owed. named c.requires _ _ names owed) c.solid_reply.ensures

pub returns-in-Err-Bad : goal.returns-in-Err-Bad
returns-in-Err-Bad c =
    let bad = c.in-Err-Bad.bad in
    let wrong : IsBadHead c.args.text.now bad = search rules in
    reply_owed (OfOrientVerify c.args.text.now c.args.file) answer.No (illegal_line bad) c.illegal.result (head_bad c.requires bad wrong)
    (rw c.in-Err-Bad.field-0-is at c.illegal.ensures)
