use Rattle.std.proofs.Common.{rules, sym, subst}
use Rattle.command_replies.specs.Texts.{fail_line}
use Rattle.command_replies.specs.declared.answer.Answer.TheVariants.{No}
use Rattle.command_replies.proofs.Replying.{reply_owed}
use Rattle.open_certificate.specs.Legal.{IsOpenAccepted}
use Rattle.open_commands.specs.Due.{OfOpen, open_fail_line, open_misplaced, open_unsound}
use Rattle.open_commands.specs.Verdict.{IsOpenVerdict, misplaced, unsound}
use Rattle.open_commands.proofs.Shells.{is_open}
use Rattle.open_commands.proofs.Owing.{sound_owed}
use Rattle.open_commands.proofs.certifying.certify_shell.Goals as goal

pub open_certify-requires : goal.open_certify-requires
open_certify-requires c = is_open c.args.file c.args.no c.in-Ok.solid c.in-Ok.ensures.solid

pub returns-in-Err-Fails : goal.returns-in-Err-Fails
returns-in-Err-Fails c =
    let x = c.in-Err-Fails.failing in
    let first : IsOpenVerdict c.args.file c.args.no (misplaced x) = search rules in
    reply_owed (OfOpen c.args.no c.args.file) No (fail_line x) c.failed.result (open_misplaced x first) c.failed.ensures

pub returns-in-Err-Fails-open_certify : goal.returns-in-Err-Fails-open_certify
returns-in-Err-Fails-open_certify c =
    let x = c.in-Err-Fails-open_certify.failing in
    let first : IsOpenVerdict c.args.file c.args.no (unsound x) = search rules in
    reply_owed (OfOpen c.args.no c.args.file) No (open_fail_line x) c.failed_by.result (open_unsound x first) (rw c.name.ensures at c.failed_by.ensures)

pub returns : goal.returns
returns c =
    let made = c.in-Ok-open_certify.ensures in
    sound_owed c.args.file c.args.no c.in_ok-write_open.field-0 c.in-Ok.solid c.in-Ok.ensures.holds c.in-Ok.ensures.solid made.holds
    (subst (IsOpenAccepted c.in-Ok.solid) (sym c.in_ok-write_open.ensures.text) made.accepted)
