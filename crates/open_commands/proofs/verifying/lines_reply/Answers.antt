use Rattle.std.proofs.Common.{rules}
use Rattle.brep_walk.specs.OpenPlaces.{shell_solid_of}
use Rattle.cert_lines.specs.Line.{cut_lines}
use Rattle.command_replies.specs.Texts.{accepted_line, fail_line, illegal_line}
use Rattle.command_replies.specs.declared.answer.Answer.TheVariants.{Done, No}
use Rattle.command_replies.proofs.Replying.{reply_owed}
use Rattle.open_certificate.specs.Legal.{IsOpenLegal, IsOpenFirstBad}
use Rattle.solid_data.specs.Obligations.{FirstFalse}
use Rattle.open_commands.specs.Verdict.{open_checked}
use Rattle.open_commands.specs.Due.{OfShellLines, place_fails, line_bad, lines_accepted}
use Rattle.open_commands.proofs.Shells.{is_open}
use Rattle.open_commands.proofs.verifying.lines_reply.Goals as goal

pub new-requires : goal.new-requires
new-requires c = is_open c.args.file c.args.no.0 c.in-Ok.solid c.in-Ok.ensures.solid

pub returns-in-Err-Fails : goal.returns-in-Err-Fails
returns-in-Err-Fails c =
    let x = c.in-Err-Fails.failing in
    let first : FirstFalse (open_checked c.args.file c.args.no.0) x = search rules in
    reply_owed (OfShellLines c.args.no.0 (cut_lines c.args.lines.now) c.args.file) No (fail_line x) c.failed.result (place_fails x first)
    (rw c.in-Err-Fails.field-0-is at c.failed.ensures)

pub returns-in-Ok-judge_lines : goal.returns-in-Ok-judge_lines
returns-in-Ok-judge_lines c =
    let legal : IsOpenLegal (shell_solid_of c.args.file c.args.no.0) (cut_lines c.args.lines.now) = search rules in
    reply_owed (OfShellLines c.args.no.0 (cut_lines c.args.lines.now) c.args.file) Done (accepted_line c.args.no.0) c.accepted.result
    (lines_accepted c.in-Ok.ensures.holds legal) c.accepted.ensures

pub returns : goal.returns
returns c =
    let bad = c.in-Err.bad in
    let first : IsOpenFirstBad (shell_solid_of c.args.file c.args.no.0) (cut_lines c.args.lines.now) bad = search rules in
    reply_owed (OfShellLines c.args.no.0 (cut_lines c.args.lines.now) c.args.file) No (illegal_line bad) c.illegal.result
    (line_bad c.in-Ok.ensures.holds bad first) c.illegal.ensures
