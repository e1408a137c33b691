use Rattle.std.proofs.Common.{rules}
use Rattle.std.proofs.lemmas.Result.{IfOk-weaker}
use Rattle.solid_data.specs.Obligations.{FirstFalse}
use Rattle.brep_walk.specs.Places.{places}
use Rattle.brep_walk.specs.SolidOf.{solid_of}
use Rattle.cert_lines.specs.Line.{cut_lines}
use Rattle.command_replies.specs.Texts.{fail_line}
use Rattle.command_replies.specs.declared.answer.Answer.TheVariants as answer
use Rattle.command_replies.proofs.Replying.{reply_owed}
use Rattle.orient_commands.specs.Due.{OfOrientLines, orient_fail_line, place_fails, uncounted}
use Rattle.orient_commands.specs.Shells.{IsFirstUncounted}
use Rattle.orient_commands.proofs.Owing.{lines_owed}
use Rattle.orient_commands.proofs.verifying.solid_reply.Goals as goal

pub returns-in-Err-Fails : goal.returns-in-Err-Fails
returns-in-Err-Fails c =
    let x = c.in-Err-Fails.failing in
    let first : FirstFalse (places c.args.file c.args.no.0) x = search rules in
    reply_owed (OfOrientLines c.args.no.0 (cut_lines c.args.text.now) c.args.file) answer.No (fail_line x) c.failed.result (place_fails x first)
    (rw c.in-Err-Fails.field-0-is at c.failed.ensures)

pub returns-in-Ok-count_shells : goal.returns-in-Ok-count_shells
returns-in-Ok-count_shells c =
    IfOk-weaker c.lines_reply.result _ _
    (lines_owed c.args.file c.args.no.0 (cut_lines c.args.text.now) c.in-Ok.solid c.in-Ok.ensures.solid c.in-Ok.ensures.holds
    c.in-Ok-count_shells.ensures.holds) c.lines_reply.ensures

pub returns-in-Err-Fails-count_shells : goal.returns-in-Err-Fails-count_shells
returns-in-Err-Fails-count_shells c =
    let x = c.in-Err-Fails-count_shells.failing in
    let first : IsFirstUncounted (solid_of c.args.file c.args.no.0) x = search rules in
    reply_owed (OfOrientLines c.args.no.0 (cut_lines c.args.text.now) c.args.file) answer.No (orient_fail_line x) c.shell_failed.result
    (uncounted c.in-Ok.ensures.holds x first) (search rules)
