use Rattle.std.specs.Prelude.{◌++◌, unwrap_or}
use Rattle.std.proofs.Common.{subst, sym}
use Rattle.std.proofs.lemmas.Result.{IfOk-weaker}
use Rattle.command_replies.proofs.Replying.{reply_owed}
use Rattle.command_replies.specs.Texts.{fail_line}
use Rattle.command_replies.specs.declared.answer.Answer.TheVariants as answer
use Rattle.solid_data.specs.declared.verdict.Failing.{Failing}
use Rattle.solid_mend.specs.Mended.{IsMended}
use Rattle.mend_commands.specs.Due.{unmended_line}
use Rattle.mended_commands.specs.Due.{OfToldPlaced, mended, unmended}
use Rattle.mended_commands.proofs.telling.tell_failing.Goals as goal

pub returns-in-Mended : goal.returns-in-Mended
returns-in-Mended c =
    let made : IsMended c.args.extraction.now.file c.args.extraction.now.no.0 c.in-Mended.new.changes c.in-Mended.new.file = rw c.in-Mended.is at c.in_ok-new.ensures in
    IfOk-weaker c.told_mended.result _ _
    (λ reply owed. mended c.args.failing c.requires.fails c.args.extraction.now.file c.args.extraction.now.no.0 c.in-Mended.new.changes c.in-Mended.new.file
    (record { extracted = c.requires.extracted; mended = made; writable = c.told_mended.ensures.writable }) c.in-Mended.new.numbers.items owed)
    c.told_mended.ensures.reply

pub returns-in-Unmended : goal.returns-in-Unmended
returns-in-Unmended c =
    reply_owed (OfToldPlaced c.args.asked.no c.args.file.now c.args.asked.twice c.args.dropped.now) answer.No
    (fail_line c.unwrap_or.result ++ unmended_line c.in-Unmended.why) c.unmended.result
    (subst (λ (x : Failing). OfToldPlaced c.args.asked.no c.args.file.now c.args.asked.twice c.args.dropped.now answer.No
    (fail_line x ++ unmended_line c.in-Unmended.why)) (sym c.unwrap_or.ensures)
    (unmended c.args.extraction.now.file c.requires.extracted.extracted c.args.failing c.requires.fails c.in-Unmended.why)) c.unmended.ensures
