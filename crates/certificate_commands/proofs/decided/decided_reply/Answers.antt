use Rattle.certificate_commands.proofs.Judged.{decided_owed, rest_too_large}
use Rattle.std.proofs.lemmas.Result.{IfOk-from_err}
use Rattle.certificate_commands.proofs.Readings.{ended_whole, large_whole, stopped_so, went_on}
use Rattle.certificate_commands.proofs.decided.decided_reply.Goals as goal

pub returns-then-not-branch-clause-found : goal.returns-then-not-branch-clause-found
returns-then-not-branch-clause-found g c =
    let many = rw c.if-not-branch.true at (c.in_ok-read_rest.ensures {u = tt}).found in
    λ f before text taken long decided. rest_too_large f before _ _ text c.args.came c.too_large.result taken long many c.too_large.ensures

pub returns-clause-found : goal.returns-clause-found
returns-clause-found g c =
    let rest = rw c.if-not-branch.false at (c.in_ok-read_rest.ensures {u = tt}).found in
    λ f before text taken long decided. decided_owed f before _ _ text c.args.came c.args.reply taken long decided rest

pub read_rest-requires : goal.read_rest-requires
read_rest-requires g c = c.requires

pub returns-in_err-read_rest-clause-found : goal.returns-in_err-read_rest-clause-found
returns-in_err-read_rest-clause-found g c = λ f before text taken long decided. IfOk-from_err c.from_residual.result _ c.from_residual.ensures.0

pub returns-in_err-read_rest-clause-whole : goal.returns-in_err-read_rest-clause-whole
returns-in_err-read_rest-clause-whole g c = IfOk-from_err c.from_residual.result _ c.from_residual.ensures.0

pub returns-in_err-read_rest-clause-reads : goal.returns-in_err-read_rest-clause-reads
returns-in_err-read_rest-clause-reads g c = stopped_so _ _ _ _ _ _ c.from_residual.result c.from_residual.ensures.1 (c.in_err-read_rest.ensures {u = tt}).reads

pub returns-then-not-branch-clause-whole : goal.returns-then-not-branch-clause-whole
returns-then-not-branch-clause-whole g c = large_whole _ c.too_large.result c.too_large.ensures.0

pub returns-then-not-branch-clause-reads : goal.returns-then-not-branch-clause-reads
returns-then-not-branch-clause-reads g c = went_on _ _ _ _ _ _ _ (c.in_ok-read_rest.ensures {u = tt}).reads

pub returns-clause-whole : goal.returns-clause-whole
returns-clause-whole g c =
    let rest = rw c.if-not-branch.false at (c.in_ok-read_rest.ensures {u = tt}).found in
    ended_whole _ _ rest.ended

pub returns-clause-reads : goal.returns-clause-reads
returns-clause-reads g c = went_on _ _ _ _ _ _ _ (c.in_ok-read_rest.ensures {u = tt}).reads
