use Rattle.std.proofs.Common.{◌++◌}
use Rattle.certificate_commands.specs.Books.{held}
use Rattle.certificate_commands.proofs.BookSteps.{refused_part}
use Rattle.std.proofs.lemmas.Result.{IfOk-from_err}
use Rattle.certificate_commands.proofs.Readings.{ran_out_first, stopped_so, went_on}
use Rattle.certificate_commands.proofs.books.judge_part.Goals as goal

pub returns-in-Err-clause-found : goal.returns-in-Err-clause-found
returns-in-Err-clause-found g c = λ ns before h.
    let tells = rw c.in-Err.is at (c.in_ok-solid.ensures {u = tt}).found in
    (c.in_ok-reply-in-Err.ensures {u = tt}).found c.args.walker.now before (h.front ++ held c.args.piece.now c.args.begun) h.taken h.long
    (refused_part c.args.walker.now ns before _ c.args.piece.now c.args.begun h c.in-Err.reply tells)

pub returns-clause-found : goal.returns-clause-found
returns-clause-found g c = λ ns before h. c.judge_part_lines-outcome.ensures.found c.args.walker.now ns before h
    (rw c.in-Ok.is at (c.in_ok-solid.ensures {u = tt}).found)

pub returns-in_err-solid-clause-found : goal.returns-in_err-solid-clause-found
returns-in_err-solid-clause-found g c = λ ns before h. IfOk-from_err c.from_residual.result _ c.from_residual.ensures.0

pub returns-in_err-solid-clause-leaves : goal.returns-in_err-solid-clause-leaves
returns-in_err-solid-clause-leaves g c = IfOk-from_err c.from_residual.result _ c.from_residual.ensures.0

pub returns-in_err-solid-clause-more : goal.returns-in_err-solid-clause-more
returns-in_err-solid-clause-more g c = IfOk-from_err c.from_residual.result _ c.from_residual.ensures.0

pub returns-in_err-solid-clause-reads : goal.returns-in_err-solid-clause-reads
returns-in_err-solid-clause-reads g c = ran_out_first _ _ _ c.from_residual.result c.from_residual.ensures.1

pub returns-in_err-reply-in-Err-clause-found : goal.returns-in_err-reply-in-Err-clause-found
returns-in_err-reply-in-Err-clause-found g c = λ ns before h. IfOk-from_err c.from_residual-in_err-reply-in-Err.result _
    c.from_residual-in_err-reply-in-Err.ensures.0

pub returns-in_err-reply-in-Err-clause-leaves : goal.returns-in_err-reply-in-Err-clause-leaves
returns-in_err-reply-in-Err-clause-leaves g c = IfOk-from_err c.from_residual-in_err-reply-in-Err.result _ c.from_residual-in_err-reply-in-Err.ensures.0

pub returns-in_err-reply-in-Err-clause-more : goal.returns-in_err-reply-in-Err-clause-more
returns-in_err-reply-in-Err-clause-more g c = IfOk-from_err c.from_residual-in_err-reply-in-Err.result _ c.from_residual-in_err-reply-in-Err.ensures.0

pub returns-in_err-reply-in-Err-clause-reads : goal.returns-in_err-reply-in-Err-clause-reads
returns-in_err-reply-in-Err-clause-reads g c = stopped_so _ _ _ _ _ _ c.from_residual-in_err-reply-in-Err.result c.from_residual-in_err-reply-in-Err.ensures.1
    (c.in_err-reply-in-Err.ensures {u = tt}).reads

pub returns-in-Err-clause-leaves : goal.returns-in-Err-clause-leaves
returns-in-Err-clause-leaves g c = (c.in_ok-reply-in-Err.ensures {u = tt}).whole

pub returns-in-Err-clause-reads : goal.returns-in-Err-clause-reads
returns-in-Err-clause-reads g c = went_on _ _ _ _ _ _ _ (c.in_ok-reply-in-Err.ensures {u = tt}).reads

pub decided_reply-requires : goal.decided_reply-requires
decided_reply-requires g c = record { ready = c.requires.ready; room = c.requires.room; few = c.requires.place.few }

pub judge_part_lines-outcome-requires : goal.judge_part_lines-outcome-requires
judge_part_lines-outcome-requires g c = record { ready = c.requires.ready; room = c.requires.room; place = c.requires.place }

pub returns-clause-leaves : goal.returns-clause-leaves
returns-clause-leaves g c = c.judge_part_lines-outcome.ensures.leaves

pub returns-clause-reads : goal.returns-clause-reads
returns-clause-reads g c = c.judge_part_lines-outcome.ensures.reads

pub returns-clause-more : goal.returns-clause-more
returns-clause-more g c = c.judge_part_lines-outcome.ensures.more
