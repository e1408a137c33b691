use Rattle.shell_change.specs.Pieces.{BeginsInOrder}
use Rattle.shell_change.proofs.Matching.{EachBelow}
use Rattle.shell_change.proofs.PiecesLemmas.{Begun}
use Rattle.shell_change.proofs.pieces.pieces_in_order.Given as goal

abbrev pub invariant-faces : goal.invariant-faces
invariant-faces l = record {
  begun : Begun l.fates l.i l.begun;
  ordered : EachBelow (BeginsInOrder l.fates) l.fates l.i;
}
