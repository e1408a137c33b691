use Rattle.std.proofs.Common.{arith}
use Rattle.change_pieces.proofs.Steps.{above_next, above_done}
use Rattle.change_pieces.proofs.placing.piece_count.Goals as goal

pub faces-preserved : goal.faces-preserved
faces-preserved c = above_next c.args.fates.now c.faces.i _ c.faces.above _ _ c.item_at.ensures c.faces.invariant c.above_face-above.ensures

pub returns : goal.returns
returns c = above_done c.args.fates.now c.faces.i _ _ (omega arith) c.faces.invariant
