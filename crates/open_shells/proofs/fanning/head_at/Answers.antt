use Rattle.open_shells.proofs.HeadCells.{head_there}
use Rattle.open_shells.proofs.fanning.head_at.Goals as goal

pub returns : goal.returns
returns c d h = head_there d c.args.heads.now c.args.vertex c.at.result h c.requires c.at.ensures
