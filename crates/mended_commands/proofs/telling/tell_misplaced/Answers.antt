use Rattle.std.proofs.lemmas.Result.{IfOk-weaker}
use Rattle.command_replies.proofs.Replying.{reply_owed}
use Rattle.command_replies.specs.Texts.{fail_line}
use Rattle.command_replies.specs.declared.answer.Answer.TheVariants as answer
use Rattle.file_replies.specs.Written.{no_extract_line}
use Rattle.mend_commands.specs.State.{IsWithoutTwice}
use Rattle.mend_commands.specs.declared.naming.WithoutTwice.TheVariants as without
use Rattle.mend_commands.proofs.StateLemmas.{again_shells}
use Rattle.mended_commands.specs.Due.{OfMended}
use Rattle.mended_commands.specs.Due as due
use Rattle.mended_commands.proofs.TellingLemmas.{again_told}
use Rattle.mended_commands.proofs.telling.tell_misplaced.Goals as goal

pub returns-in-Refused : goal.returns-in-Refused
returns-in-Refused c =
    reply_owed (OfMended c.args.no c.args.file.now) answer.NoExtract (no_extract_line c.in-Refused.entity.0 c.in-Refused.reason) c.refused.result
    (due.placed (due.not_extracted c.in-Refused.entity.0 c.in-Refused.reason (rw c.in-Refused.is at c.in_ok-entity.ensures))) c.refused.ensures

pub returns-in-Fails : goal.returns-in-Fails
returns-in-Fails c =
    let is : IsWithoutTwice c.args.file.now c.args.no c.args.failing without.Fails = rw c.in-Fails.is at c.in_ok-entity.ensures in
    reply_owed (OfMended c.args.no c.args.file.now) answer.No (fail_line c.args.failing) c.failed.result
    (due.misplaced is.0 is.1 c.args.failing c.requires is.2) c.failed.ensures

pub returns-in-Again : goal.returns-in-Again
returns-in-Again c =
    let is : IsWithoutTwice c.args.file.now c.args.no c.args.failing (without.Again c.in-Again.again) = rw c.in-Again.is at c.in_ok-entity.ensures in
    IfOk-weaker c.tell_again.result _ _
    (λ reply owed. again_told c.args.file.now c.args.no c.args.failing c.in-Again.again is.0 is.1 is.2 reply.answer reply.text owed) c.tell_again.ensures

pub tell_again-requires : goal.tell_again-requires
tell_again-requires c =
    let is : IsWithoutTwice c.args.file.now c.args.no c.args.failing (without.Again c.in-Again.again) = rw c.in-Again.is at c.in_ok-entity.ensures in
    again_shells c.args.file.now c.args.no c.args.failing c.in-Again.again is.2
