use Rattle.std.proofs.Common.{rules}
use Rattle.std.proofs.lemmas.Result.{IfOk-weaker}
use Rattle.solid_data.specs.Obligations.{FirstFalse}
use Rattle.brep_walk.specs.Places.{places}
use Rattle.command_replies.specs.Texts.{fail_line}
use Rattle.command_replies.specs.declared.answer.Answer.TheVariants as answer
use Rattle.command_replies.proofs.Replying.{reply_owed}
use Rattle.orient_commands.specs.Due.{OfOrient, misplaced}
use Rattle.orient_commands.proofs.orienting.orient_solid.Goals as goal

pub returns-in-Err-Fails : goal.returns-in-Err-Fails
returns-in-Err-Fails c =
    let x = c.in-Err-Fails.failing in
    let first : FirstFalse (places c.args.file c.args.no) x = search rules in
    reply_owed (OfOrient c.args.no c.args.file) answer.No (fail_line x) c.failed.result (misplaced x first) c.failed.ensures

pub returns : goal.returns
returns c = IfOk-weaker c.orient_walked.result _ _ (λ reply owed. owed c.args.file c.args.no c.in-Ok.ensures.solid c.in-Ok.ensures.holds) c.orient_walked.ensures
