use Rattle.std.proofs.Common.{arith, refl, ℕ}
use Rattle.solid_data.specs.declared.solid.LoopAt.{LoopAt}
use Rattle.solid_faults.proofs.GapSteps.{mapped_step}
use Rattle.shell_facts.proofs.EdgeRows.{mapped_done}
use Rattle.shell_facts.proofs.turning.points_of.Goals as goal

pub points-preserved : goal.points-preserved
points-preserved c =
    mapped_step (λ (p : LoopAt × ℕ). p.1) c.args.rows.now.points (c.point_at.result.0, c.point_at.result.1.0) c.points.i c.point_at.result.1.0
    c.points.points.items c.push.new.self.items _ c.point_at.ensures c.points.invariant refl c.in_ok-push.ensures.items

pub returns : goal.returns
returns c =
    mapped_done (λ (p : LoopAt × ℕ). p.1) c.args.rows.now.points c.points.i c.points.points.items _
    (omega (arith, c.points-test.false, c.points.auto.i-end, c.isolated_count-i-end.ensures)) c.points.invariant
