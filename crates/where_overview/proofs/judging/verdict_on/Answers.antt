use Rattle.std.proofs.lemmas.Result.{IfOk-weaker}
use Rattle.where_solids.proofs.ToldSolids.{fails_on, judged_on}
use Rattle.where_overview.proofs.judging.verdict_on.Goals as goal

pub returns-in-Err-Fails-clause-verdict : goal.returns-in-Err-Fails-clause-verdict
returns-in-Err-Fails-clause-verdict c =
    rw c.in-Err-Fails.field-0-is (fails_on c.args.walker.now c.args.no.0 c.in-Err-Fails.failing (rw c.in-Err-Fails.field-0-is at c.in-Err-Fails.ensures.fault))

pub returns-clause-verdict : goal.returns-clause-verdict
returns-clause-verdict c =
    IfOk-weaker c.judged-verdict.result _ _
    (λ v told. judged_on c.args.walker.now c.args.no.0 c.in-Ok.solid v c.in-Ok.ensures.solid c.in-Ok.ensures.holds told) c.judged-verdict.ensures
