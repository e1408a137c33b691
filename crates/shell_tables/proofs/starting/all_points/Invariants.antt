use Rattle.shell_tables.proofs.StartCells.{PointsNoted}
use Rattle.shell_tables.proofs.starting.all_points.Given as goal

abbrev pub invariant-points : goal.invariant-points
invariant-points l = PointsNoted l.fn.rows l.i l.points
