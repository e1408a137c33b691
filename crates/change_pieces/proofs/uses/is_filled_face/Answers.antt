use Rattle.std.proofs.Common.{refl}
use Rattle.change_pieces.specs.Filled.{IsFilledLoop}
use Rattle.change_pieces.proofs.Steps.{all_next, no_claim}
use Rattle.change_pieces.proofs.uses.is_filled_face.Goals as goal

pub loops-init : goal.loops-init
loops-init c = λ h. h

pub returns-then-not-is_filled_loop : goal.returns-then-not-is_filled_loop
returns-then-not-is_filled_loop c = no_claim

pub loops-preserved : goal.loops-preserved
loops-preserved c = all_next IsFilledLoop _ c.loops.i _ c.item_at.ensures (c.if-not-is_filled_loop.ensures refl) c.loops.invariant
