use Rattle.std.proofs.Common.{refl}
use Rattle.change_pieces.specs.Filled.{IsFilledFace}
use Rattle.change_pieces.proofs.Steps.{all_next, no_claim}
use Rattle.change_pieces.proofs.uses.is_filled_shell.Goals as goal

pub faces-init : goal.faces-init
faces-init c = λ h. h

pub returns-then-not-is_filled_face : goal.returns-then-not-is_filled_face
returns-then-not-is_filled_face c = no_claim

pub faces-preserved : goal.faces-preserved
faces-preserved c = all_next IsFilledFace _ c.faces.i _ c.item_at.ensures (c.if-not-is_filled_face.ensures refl) c.faces.invariant
