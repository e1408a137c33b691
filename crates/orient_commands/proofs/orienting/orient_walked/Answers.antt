use Rattle.std.proofs.Common.{rules, subst}
use Rattle.std.proofs.lemmas.Result.{IfOk-weaker}
use Rattle.solid_data.specs.SolidData.{SolidData}
use Rattle.command_replies.specs.declared.answer.Answer.TheVariants as answer
use Rattle.command_replies.proofs.Owing.{owed_so}
use Rattle.orient_commands.specs.Due.{OfOrient, orient_fail_line, unready}
use Rattle.orient_commands.specs.Shells.{IsFirstUnready}
use Rattle.orient_commands.proofs.ShellSteps.{orient_owed}
use Rattle.orient_commands.proofs.orienting.orient_walked.Goals as goal

pub returns-in-Ok : goal.returns-in-Ok
returns-in-Ok c = λ f n is holds. orient_owed f n c.args.solid.now c.in-Ok.reply.answer c.in-Ok.reply.text is holds c.in-Ok.ensures.ready c.in-Ok.ensures.text

pub returns-in-Err-Fails : goal.returns-in-Err-Fails
returns-in-Err-Fails c =
    let x = c.in-Err-Fails.failing in
    let first : IsFirstUnready c.args.solid.now x = search rules in
    IfOk-weaker c.shell_failed.result _ _
    (λ reply same f n is holds. owed_so (OfOrient n f) answer.No reply.answer (orient_fail_line x) reply.text
    (unready holds x (subst (λ (s : SolidData). IsFirstUnready s x) is first)) same.0 same.1) c.shell_failed.ensures
