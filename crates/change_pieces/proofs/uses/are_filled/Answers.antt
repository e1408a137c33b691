use Rattle.std.proofs.Common.{refl, arith}
use Rattle.change_pieces.specs.Filled.{IsFilledShell}
use Rattle.change_pieces.proofs.Steps.{all_next, all_done, no_claim}
use Rattle.change_pieces.proofs.uses.are_filled.Goals as goal

pub shells-init : goal.shells-init
shells-init c = λ h. h

pub returns-then-not-is_filled_shell : goal.returns-then-not-is_filled_shell
returns-then-not-is_filled_shell c = no_claim

pub shells-preserved : goal.shells-preserved
shells-preserved c = all_next IsFilledShell _ c.shells.i _ c.item_at.ensures (c.if-not-is_filled_shell.ensures refl) c.shells.invariant

pub returns : goal.returns
returns c = λ t. all_done IsFilledShell _ c.shells.i (omega arith) c.shells.invariant
