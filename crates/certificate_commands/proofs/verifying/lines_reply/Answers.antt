use Rattle.std.proofs.Common.{◌++◌}
use Rattle.certificate_commands.proofs.Judged.{lines_judged, rest_owed, rest_too_large}
use Rattle.std.proofs.lemmas.Result.{IfOk-from_err}
use Rattle.certificate_commands.proofs.Readings.{ended_whole, fed_takes, large_whole, ran_out, stopped_so, went_on}
use Rattle.certificate_commands.proofs.verifying.lines_reply.Goals as goal

pub returns-then-not-branch-clause-found : goal.returns-then-not-branch-clause-found
returns-then-not-branch-clause-found g c = λ f s before opened checked starts.
    let many = rw c.if-not-branch.true at (c.in_ok-feed_rest.ensures {u = tt}).found in
    rest_too_large f before _ _ (opened.front ++ opened.rest) c.args.opened.came c.too_large.result opened.taken opened.long many c.too_large.ensures

pub returns-clause-found : goal.returns-clause-found
returns-clause-found g c = λ f s before opened checked starts.
    let fed = c.feed-fault.ensures.fed c.args.opened.version s 3 _ starts in
    let rest = rw c.if-not-branch.false at (c.in_ok-feed_rest.ensures {u = tt}).found in
    rest_owed f before _ _ (opened.front ++ opened.rest) c.args.opened.came c.args.opened.no.0 c.feed-fault.new.self c.feed_rest.new.checker
    c.in_ok-end_reply.field-0 opened.taken opened.long
    (lines_judged f before _ c.args.piece.now c.args.opened c.feed-fault.new.self opened c.requires.one s checked (rw opened.behind fed)) rest
    (c.in_ok-end_reply.ensures {u = tt})

pub feed_rest-requires : goal.feed_rest-requires
feed_rest-requires g c = record { ready = c.requires.ready; room = c.requires.room; few = c.requires.place.few }

pub returns-in_err-feed_rest-clause-found : goal.returns-in_err-feed_rest-clause-found
returns-in_err-feed_rest-clause-found g c = λ f s before opened checked starts. IfOk-from_err c.from_residual.result _ c.from_residual.ensures.0

pub returns-in_err-feed_rest-clause-whole : goal.returns-in_err-feed_rest-clause-whole
returns-in_err-feed_rest-clause-whole g c = IfOk-from_err c.from_residual.result _ c.from_residual.ensures.0

pub returns-in_err-feed_rest-clause-reads : goal.returns-in_err-feed_rest-clause-reads
returns-in_err-feed_rest-clause-reads g c = stopped_so _ _ _ _ _ _ c.from_residual.result c.from_residual.ensures.1 (c.in_err-feed_rest.ensures {u = tt}).reads

pub returns-then-not-branch-clause-whole : goal.returns-then-not-branch-clause-whole
returns-then-not-branch-clause-whole g c = large_whole _ c.too_large.result c.too_large.ensures.0

pub returns-then-not-branch-clause-reads : goal.returns-then-not-branch-clause-reads
returns-then-not-branch-clause-reads g c = went_on _ _ _ _ _ _ _ (c.in_ok-feed_rest.ensures {u = tt}).reads

pub returns-in_err-end_reply-clause-found : goal.returns-in_err-end_reply-clause-found
returns-in_err-end_reply-clause-found g c = λ f s before opened checked starts. IfOk-from_err c.from_residual-in_err-end_reply.result _
    c.from_residual-in_err-end_reply.ensures.0

pub returns-in_err-end_reply-clause-whole : goal.returns-in_err-end_reply-clause-whole
returns-in_err-end_reply-clause-whole g c = IfOk-from_err c.from_residual-in_err-end_reply.result _ c.from_residual-in_err-end_reply.ensures.0

pub returns-in_err-end_reply-clause-reads : goal.returns-in_err-end_reply-clause-reads
returns-in_err-end_reply-clause-reads g c =
    let rest = rw c.if-not-branch.false at (c.in_ok-feed_rest.ensures {u = tt}).found in
    ran_out _ _ _ _ _ _ c.from_residual-in_err-end_reply.ensures.1 (c.in_ok-feed_rest.ensures {u = tt}).reads.count (fed_takes _ _ _ _ _ rest)

pub returns-clause-whole : goal.returns-clause-whole
returns-clause-whole g c =
    let rest = rw c.if-not-branch.false at (c.in_ok-feed_rest.ensures {u = tt}).found in
    ended_whole _ _ rest.ended

pub returns-clause-reads : goal.returns-clause-reads
returns-clause-reads g c = went_on _ _ _ _ _ _ _ (c.in_ok-feed_rest.ensures {u = tt}).reads
