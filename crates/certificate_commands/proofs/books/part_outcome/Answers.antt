use Rattle.certificate_commands.proofs.BookSteps.{bad_part, large_part, last_part, last_takes, next_goes_on, next_part}
use Rattle.std.proofs.lemmas.Result.{IfOk-from_err}
use Rattle.certificate_commands.proofs.Readings.{ended_whole, large_whole, ran_out, stopped_so, went_on}
use Rattle.certificate_commands.proofs.books.part_outcome.Goals as goal

pub returns-in-Next-clause-found : goal.returns-in-Next-clause-found
returns-in-Next-clause-found g c = λ f s ns before h checked fed.
    let next = rw c.in-Next.is at (c.in_ok-next.ensures {u = tt}).found in
    next_part f ns before _ c.args.piece.now c.args.begun h _ s checked _ _ fed c.read_part.new.piece c.in-Next.next next

pub returns-in-Next-clause-leaves : goal.returns-in-Next-clause-leaves
returns-in-Next-clause-leaves g c =
    let next = rw c.in-Next.is at (c.in_ok-next.ensures {u = tt}).found in
    next_goes_on _ _ c.args.piece.now c.read_part.new.piece c.args.begun c.in-Next.next c.requires.starts.0 _ _ c.requires.place c.requires.starts.1 next

pub returns-in-Ok-clause-found : goal.returns-in-Ok-clause-found
returns-in-Ok-clause-found g c = λ f s ns before h checked fed.
    let last = rw c.in-Last.is at (c.in_ok-next.ensures {u = tt}).found in
    let legal = (c.in-Ok.ensures {u = tt}).part _ s c.args.begun.line _ (last.fed _ s c.args.begun.line fed) in
    last_part f ns before _ c.args.piece.now c.args.begun h _ s checked _ _ fed last legal

pub returns-in_ok-illegal-in-Err-clause-found : goal.returns-in_ok-illegal-in-Err-clause-found
returns-in_ok-illegal-in-Err-clause-found g c = λ f s ns before h checked fed.
    let last = rw c.in-Last.is at (c.in_ok-next.ensures {u = tt}).found in
    let wrong = (c.in-Err.ensures {u = tt}).part _ s c.args.begun.line _ (last.fed _ s c.args.begun.line fed) in
    bad_part f ns before _ c.args.piece.now c.args.begun h _ s checked _ _ fed last c.in-Err.bad wrong c.in_ok-illegal-in-Err.field-0
    (c.in_ok-illegal-in-Err.ensures {u = tt})

pub returns-in-TooLarge-clause-found : goal.returns-in-TooLarge-clause-found
returns-in-TooLarge-clause-found g c = λ f s ns before h checked fed.
    let many = rw c.in-TooLarge.is at (c.in_ok-next.ensures {u = tt}).found in
    large_part f ns before _ c.args.piece.now c.args.begun h _ c.too_large.result many c.too_large.ensures

pub read_part-requires-clause-part : goal.read_part-requires-clause-part
read_part-requires-clause-part g c = (_, c.requires.starts.0, c.args.begun.line, _, c.requires.starts.1)

pub returns-in_err-next-clause-found : goal.returns-in_err-next-clause-found
returns-in_err-next-clause-found g c = λ f s ns before h checked fed. IfOk-from_err c.from_residual.result _ c.from_residual.ensures.0

pub returns-in_err-next-clause-leaves : goal.returns-in_err-next-clause-leaves
returns-in_err-next-clause-leaves g c = IfOk-from_err c.from_residual.result _ c.from_residual.ensures.0

pub returns-in_err-next-clause-more : goal.returns-in_err-next-clause-more
returns-in_err-next-clause-more g c = IfOk-from_err c.from_residual.result _ c.from_residual.ensures.0

pub returns-in_err-next-clause-reads : goal.returns-in_err-next-clause-reads
returns-in_err-next-clause-reads g c = stopped_so _ _ _ _ _ _ c.from_residual.result c.from_residual.ensures.1 (c.in_err-next.ensures {u = tt}).reads

pub returns-in-Next-clause-reads : goal.returns-in-Next-clause-reads
returns-in-Next-clause-reads g c = went_on _ _ _ _ _ _ _ (c.in_ok-next.ensures {u = tt}).reads

pub returns-in-Ok-clause-reads : goal.returns-in-Ok-clause-reads
returns-in-Ok-clause-reads g c = went_on _ _ _ _ _ _ _ (c.in_ok-next.ensures {u = tt}).reads

pub returns-in-Ok-clause-leaves : goal.returns-in-Ok-clause-leaves
returns-in-Ok-clause-leaves g c =
    let last = rw c.in-Last.is at (c.in_ok-next.ensures {u = tt}).found in
    (last.ended, last_takes _ _ c.args.begun.came _ _ _ last)

pub returns-in_ok-illegal-in-Err-clause-reads : goal.returns-in_ok-illegal-in-Err-clause-reads
returns-in_ok-illegal-in-Err-clause-reads g c = went_on _ _ _ _ _ _ _ (c.in_ok-next.ensures {u = tt}).reads

pub returns-in_ok-illegal-in-Err-clause-leaves : goal.returns-in_ok-illegal-in-Err-clause-leaves
returns-in_ok-illegal-in-Err-clause-leaves g c = ended_whole _ _ (rw c.in-Last.is at (c.in_ok-next.ensures {u = tt}).found).ended

pub returns-in-TooLarge-clause-reads : goal.returns-in-TooLarge-clause-reads
returns-in-TooLarge-clause-reads g c = went_on _ _ _ _ _ _ _ (c.in_ok-next.ensures {u = tt}).reads

pub returns-in-TooLarge-clause-leaves : goal.returns-in-TooLarge-clause-leaves
returns-in-TooLarge-clause-leaves g c = large_whole _ c.too_large.result c.too_large.ensures.0

pub returns-in_err-illegal-in-Err-clause-found : goal.returns-in_err-illegal-in-Err-clause-found
returns-in_err-illegal-in-Err-clause-found g c = λ f s ns before h checked fed. IfOk-from_err c.from_residual-in_err-illegal-in-Err.result _
    c.from_residual-in_err-illegal-in-Err.ensures.0

pub returns-in_err-illegal-in-Err-clause-leaves : goal.returns-in_err-illegal-in-Err-clause-leaves
returns-in_err-illegal-in-Err-clause-leaves g c = IfOk-from_err c.from_residual-in_err-illegal-in-Err.result _ c.from_residual-in_err-illegal-in-Err.ensures.0

pub returns-in_err-illegal-in-Err-clause-more : goal.returns-in_err-illegal-in-Err-clause-more
returns-in_err-illegal-in-Err-clause-more g c = IfOk-from_err c.from_residual-in_err-illegal-in-Err.result _ c.from_residual-in_err-illegal-in-Err.ensures.0

pub returns-in_err-illegal-in-Err-clause-reads : goal.returns-in_err-illegal-in-Err-clause-reads
returns-in_err-illegal-in-Err-clause-reads g c =
    let last = rw c.in-Last.is at (c.in_ok-next.ensures {u = tt}).found in
    ran_out _ _ _ _ _ _ c.from_residual-in_err-illegal-in-Err.ensures.1 (c.in_ok-next.ensures {u = tt}).reads.count
    (last_takes _ _ c.args.begun.came _ _ _ last)
