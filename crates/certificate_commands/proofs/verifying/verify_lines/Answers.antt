use Rattle.std.proofs.lemmas.Result.{IfOk-from_err}
use Rattle.certificate_commands.proofs.Readings.{ran_out_first}
use Rattle.certificate_commands.proofs.verifying.verify_lines.Goals as goal

pub returns-clause-found : goal.returns-clause-found
returns-clause-found g c = λ f before opened checked. c.lines_reply.ensures.found f c.args.solid.now before opened checked
    (c.in_ok-checker.ensures {u = tt}).fed

pub returns-in_err-checker-clause-found : goal.returns-in_err-checker-clause-found
returns-in_err-checker-clause-found g c = λ f before opened checked. IfOk-from_err c.from_residual.result _ c.from_residual.ensures.0

pub returns-in_err-checker-clause-whole : goal.returns-in_err-checker-clause-whole
returns-in_err-checker-clause-whole g c = IfOk-from_err c.from_residual.result _ c.from_residual.ensures.0

pub returns-in_err-checker-clause-reads : goal.returns-in_err-checker-clause-reads
returns-in_err-checker-clause-reads g c = ran_out_first _ _ _ c.from_residual.result c.from_residual.ensures.1

pub lines_reply-requires : goal.lines_reply-requires
lines_reply-requires g c = record { ready = c.requires.ready; room = c.requires.room; place = c.requires.place; one = c.requires.one }

pub returns-clause-whole : goal.returns-clause-whole
returns-clause-whole g c = c.lines_reply.ensures.whole

pub returns-clause-reads : goal.returns-clause-reads
returns-clause-reads g c = c.lines_reply.ensures.reads
