use Rattle.std.proofs.Common.{sym}
use Rattle.edge_uses.specs.Before.{loop_vertices}
use Rattle.edge_uses.proofs.Above.{above_more}
use Rattle.edge_uses.proofs.apart.above_face.Goals as goal

pub loops-preserved : goal.loops-preserved
loops-preserved c =
    above_more (loop_vertices c.args.solid.now) c.as_slice-loops.result.now c.index-loops-i.result c.loops.i c.loops.above c.above_loop-above.result _
    c.loops-test.true (sym c.index-loops-i.is) c.loops.invariant c.above_loop-above.ensures
