use Rattle.std.proofs.Common.{arith}
use Rattle.solid_data.proofs.Members.{get_some}
use Rattle.solid_faults.proofs.Definite.{few_shells}
use Rattle.where_solids.proofs.VerdictSteps.{rests_fails, rests_more, rests_none, rests_all}
use Rattle.where_solids.proofs.verdicts.verdict.Goals as goal

pub shells-init : goal.shells-init
shells-init c = rests_none c.args.solid.now

pub failing_at-requires-clause-few : goal.failing_at-requires-clause-few
failing_at-requires-clause-few c =
    omega (arith, few_shells c.args.solid.now c.shell_count-k-end.ensures.numbered, c.shells-test.true, c.shell_count-k-end.ensures.count)

pub returns-in-Some : goal.returns-in-Some
returns-in-Some c =
    let h = get_some c.args.solid.now.shells c.shells.k (omega (arith, c.shells-test.true, c.shell_count-k-end.ensures.count)) in
    rests_fails c.args.solid.now c.shells.k h.0 c.in-Some.failing h.1 (rw c.in-Some.is at (c.failing_at.ensures h.0 h.1)) c.shells.invariant

pub shells-preserved : goal.shells-preserved
shells-preserved c =
    let h = get_some c.args.solid.now.shells c.shells.k (omega (arith, c.shells-test.true, c.shell_count-k-end.ensures.count)) in
    rests_more c.args.solid.now c.shells.k h.0 h.1 (rw c.in_default.is at (c.failing_at.ensures h.0 h.1)) c.shells.invariant

pub returns : goal.returns
returns c = rests_all c.args.solid.now c.shells.k (omega (arith, c.shells-test.false, c.shell_count-k-end.ensures.count)) c.shells.invariant
