use Rattle.std.proofs.Common.{[], ◌++◌}
use Rattle.std.proofs.lemmas.Result.{err_from_is_err_and}
use Rattle.cert_state.specs.Progress.{FitsLine}
use Rattle.topo_certificate.proofs.FedLines.{end_failed}
use Rattle.topo_certificate.proofs.text.check.Goals as goal

pub returns-in_err-feed-clause-whole : goal.returns-in_err-feed-clause-whole
returns-in_err-feed-clause-whole c =
    let p = err_from_is_err_and c.from_residual.result c.from_residual.ensures.1 in
    rw (p.1, p.2) (λ v s first fed. end_failed v s FitsLine first c.feed.new.self c.args.text.now c.in_err-feed.field-0.0 c.in_err-feed.ensures.answer
    (c.in_err-feed.ensures.fed v s first [] fed))

pub returns-in_err-feed-clause-further : goal.returns-in_err-feed-clause-further
returns-in_err-feed-clause-further c =
    let p = err_from_is_err_and c.from_residual.result c.from_residual.ensures.1 in
    rw (p.1, p.2) (λ v s first before fed. end_failed v s FitsLine first c.feed.new.self (before ++ c.args.text.now) c.in_err-feed.field-0.0
    c.in_err-feed.ensures.answer (c.in_err-feed.ensures.fed v s first before fed))
