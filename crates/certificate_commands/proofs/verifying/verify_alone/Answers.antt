use Rattle.certificate_commands.proofs.Judged.{refusal_decides}
use Rattle.std.proofs.lemmas.Result.{IfOk-from_err}
use Rattle.certificate_commands.proofs.Readings.{ran_out_first}
use Rattle.certificate_commands.proofs.verifying.verify_alone.Goals as goal

pub returns-in-Err-clause-found : goal.returns-in-Err-clause-found
returns-in-Err-clause-found g c = λ before opened.
    let tells = rw c.in-Err.is at (c.in_ok-solid.ensures {u = tt}) in
    c.decided_reply.ensures.found c.args.file before _ opened.taken opened.long
    (refusal_decides c.args.file before _ c.args.piece.now c.args.opened c.in-Err.reply opened c.requires.one tells)

pub returns-clause-found : goal.returns-clause-found
returns-clause-found g c = λ before opened. c.verify_lines-reply.ensures.found c.args.file before opened (rw c.in-Ok.is at (c.in_ok-solid.ensures {u = tt}))

pub returns-in_err-solid-clause-found : goal.returns-in_err-solid-clause-found
returns-in_err-solid-clause-found g c = λ before opened. IfOk-from_err c.from_residual.result _ c.from_residual.ensures.0

pub returns-in_err-solid-clause-whole : goal.returns-in_err-solid-clause-whole
returns-in_err-solid-clause-whole g c = IfOk-from_err c.from_residual.result _ c.from_residual.ensures.0

pub returns-in_err-solid-clause-reads : goal.returns-in_err-solid-clause-reads
returns-in_err-solid-clause-reads g c = ran_out_first _ _ _ c.from_residual.result c.from_residual.ensures.1

pub decided_reply-requires : goal.decided_reply-requires
decided_reply-requires g c = record { ready = c.requires.ready; room = c.requires.room; few = c.requires.place.few }

pub returns-in-Err-clause-whole : goal.returns-in-Err-clause-whole
returns-in-Err-clause-whole g c = c.decided_reply.ensures.whole

pub returns-in-Err-clause-reads : goal.returns-in-Err-clause-reads
returns-in-Err-clause-reads g c = c.decided_reply.ensures.reads

pub verify_lines-reply-requires : goal.verify_lines-reply-requires
verify_lines-reply-requires g c = record { ready = c.requires.ready; room = c.requires.room; place = c.requires.place; one = c.requires.one }

pub returns-clause-whole : goal.returns-clause-whole
returns-clause-whole g c = c.verify_lines-reply.ensures.whole

pub returns-clause-reads : goal.returns-clause-reads
returns-clause-reads g c = c.verify_lines-reply.ensures.reads
