use Rattle.std.proofs.lemmas.Result.{IfOk-weaker}
use Rattle.brep_walk.specs.SolidOf.{solid_of}
use Rattle.certificate_commands.proofs.Judged.{accepted_reply, illegal_reply}
use Rattle.certificate_commands.proofs.judging.end_reply.Goals as goal

pub returns-in-Ok : goal.returns-in-Ok
returns-in-Ok c =
    IfOk-weaker c.accepted.result _ _
    (λ reply exact f text h few. accepted_reply f c.args.no.0 text c.args.checker.now reply
    (λ v t fed. (c.in-Ok.ensures {u = tt}).fed v (solid_of f c.args.no.0) 3 t fed) exact h few)
    c.accepted.ensures

pub returns-in-Err : goal.returns-in-Err
returns-in-Err c =
    IfOk-weaker c.illegal.result _ _
    (λ reply exact f text h few. illegal_reply f c.args.no.0 text c.args.checker.now c.in-Err.bad reply
    (λ v t fed. (c.in-Err.ensures {u = tt}).fed v (solid_of f c.args.no.0) 3 t fed) exact h few)
    c.illegal.ensures
