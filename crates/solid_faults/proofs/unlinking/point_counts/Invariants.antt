use Rattle.solid_faults.proofs.FanSteps.{PointsBefore}
use Rattle.solid_faults.proofs.unlinking.point_counts.Given as goal

abbrev pub invariant-points : goal.invariant-points
invariant-points l = PointsBefore l.rows l.i l.counts
