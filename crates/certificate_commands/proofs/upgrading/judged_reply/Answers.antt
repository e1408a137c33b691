use Rattle.std.proofs.lemmas.Result.{IfOk-weaker}
use Rattle.cert_lines.specs.Line.{cut_lines}
use Rattle.certificate_commands.proofs.VerifyAnswers.{upgraded_owed, unfit_owed}
use Rattle.certificate_commands.proofs.upgrading.judged_reply.Goals as goal

pub returns-in-Ok : goal.returns-in-Ok
returns-in-Ok c = λ f n opens checked.
    let legal = rw c.in-Ok.is at (c.in_ok-judge_lines.ensures {u = tt}) in
    IfOk-weaker c.upgraded_reply.result _ _
    (λ reply owed. upgraded_owed f c.args.certificate.now c.args.version n (cut_lines c.args.rest.now) c.requires.few opens c.requires.one c.args.solid.now reply
    checked legal owed) c.upgraded_reply.ensures

pub returns-in-Err : goal.returns-in-Err
returns-in-Err c = λ f n opens checked.
    let first = rw c.in-Err.is at (c.in_ok-judge_lines.ensures {u = tt}) in
    IfOk-weaker c.illegal.result _ _
    (λ reply exact. unfit_owed f c.args.certificate.now c.args.version n (cut_lines c.args.rest.now) c.requires.few opens c.requires.one c.args.solid.now
    c.in-Err.bad reply checked first exact) c.illegal.ensures
