use Rattle.shell_tables.proofs.StartCells.{point_there}
use Rattle.shell_tables.proofs.starting.points_at.Goals as goal

pub returns : goal.returns
returns c d h = point_there d c.args.points.now c.args.vertex c.at.result h c.requires c.at.ensures
