use Rattle.std.proofs.lemmas.Result.{IfOk-weaker}
use Rattle.command_replies.proofs.Replying.{reply_owed}
use Rattle.command_replies.specs.Texts.{fail_line}
use Rattle.command_replies.specs.declared.answer.Answer.TheVariants as answer
use Rattle.file_replies.specs.Written.{no_extract_line}
use Rattle.mend_commands.specs.Due.{OfMend}
use Rattle.mend_commands.specs.Due as due
use Rattle.mend_commands.specs.State.{IsWithoutTwice}
use Rattle.mend_commands.specs.declared.naming.WithoutTwice.TheVariants as without
use Rattle.mend_commands.proofs.StateLemmas.{again_owed, again_shells}
use Rattle.mend_commands.proofs.mending.by_naming.Goals as goal

pub returns-in-Refused : goal.returns-in-Refused
returns-in-Refused c f first is =
    reply_owed (OfMend c.args.no f) answer.NoExtract (no_extract_line c.in-Refused.entity.0 c.in-Refused.reason) c.refused.result
    (due.placed (due.not_extracted c.in-Refused.entity.0 c.in-Refused.reason (rw c.in-Refused.is at is))) c.refused.ensures

pub returns-in-Fails : goal.returns-in-Fails
returns-in-Fails c f first is =
    let so : IsWithoutTwice f c.args.no c.args.failing without.Fails = rw c.in-Fails.is at is in
    reply_owed (OfMend c.args.no f) answer.No (fail_line c.args.failing) c.failed.result
    (due.misplaced so.0 so.1 c.args.failing first so.2) c.failed.ensures

pub returns-in-Again : goal.returns-in-Again
returns-in-Again c f first is =
    let so : IsWithoutTwice f c.args.no c.args.failing (without.Again c.in-Again.again) = rw c.in-Again.is at is in
    IfOk-weaker c.mend_placed.result _ _ (λ reply owed. again_owed f c.args.no c.args.failing c.in-Again.again so.0 so.1 so.2 reply.answer reply.text owed)
    (c.mend_placed.ensures (again_shells f c.args.no c.args.failing c.in-Again.again so.2))
