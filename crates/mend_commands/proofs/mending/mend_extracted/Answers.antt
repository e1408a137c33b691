use Rattle.std.specs.Prelude.{◌++◌}
use Rattle.std.proofs.Common.{subst, sym}
use Rattle.std.proofs.lemmas.Result.{IfOk-weaker}
use Rattle.command_replies.proofs.Replying.{reply_owed}
use Rattle.command_replies.specs.Texts.{fail_line}
use Rattle.command_replies.specs.declared.answer.Answer.TheVariants as answer
use Rattle.solid_data.specs.declared.verdict.Failing.{Failing}
use Rattle.solid_mend.specs.Mended.{IsMended}
use Rattle.mend_commands.specs.Due.{OfPlaced, mended, unmended, unmended_line}
use Rattle.mend_commands.proofs.mending.mend_extracted.Goals as goal

pub returns-in-Mended : goal.returns-in-Mended
returns-in-Mended c f n x twice fails told is =
    let made : IsMended c.args.extraction.file c.args.extraction.no.0 c.in-Mended.new.changes c.in-Mended.new.file = rw c.in-Mended.is at c.in_ok-new.ensures in
    IfOk-weaker c.mended.result _ _
    (λ reply owed. mended x fails c.args.extraction.file c.args.extraction.no.0 c.in-Mended.new.changes c.in-Mended.new.file
    (record { extracted = is; mended = made; writable = c.mended.ensures.writable }) owed) c.mended.ensures.reply

pub returns-in-Unmended : goal.returns-in-Unmended
returns-in-Unmended c f n x twice fails told is =
    reply_owed (OfPlaced n f twice) answer.No (fail_line c.args.told ++ unmended_line c.in-Unmended.why) c.unmended.result
    (subst (λ (y : Failing). OfPlaced n f twice answer.No (fail_line y ++ unmended_line c.in-Unmended.why)) (sym told)
    (unmended c.args.extraction.file is.extracted x fails c.in-Unmended.why)) c.unmended.ensures
