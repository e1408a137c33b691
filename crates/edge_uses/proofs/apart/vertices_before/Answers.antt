use Rattle.std.proofs.Common.{◌∙◌}
use Rattle.edge_uses.proofs.Above.{first_below}
use Rattle.edge_uses.proofs.apart.vertices_before.Goals as goal

pub returns : goal.returns
returns c = first_below c.args.solid.now c.args.shell.0 _ c.recall_numbering.ensures.numbered (c.below.ensures ∙ c.above_shells.ensures)
