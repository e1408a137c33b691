use Rattle.shell_tables.proofs.StartCells.{start_there}
use Rattle.shell_tables.proofs.starting.starts_at.Goals as goal

pub returns : goal.returns
returns c d h = start_there d c.args.starts.now c.args.vertex c.at.result h c.requires c.at.ensures
