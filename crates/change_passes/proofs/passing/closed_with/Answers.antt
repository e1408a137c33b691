use Rattle.std.specs.Prelude.{◌<◌, IfSome, length}
use Rattle.std.proofs.Common.{subst}
use Rattle.change_pieces.specs.Pieces.{ArePieces}
use Rattle.change_pieces.specs.declared.pieces.Pieces.{Pieces}
use Rattle.change_passes.proofs.passing.closed_with.Goals as goal

pub returns : goal.returns
returns c = record {
  shell = c.args.shell.now;
  at = c.requires;
  pieces = c.in-Some.pieces.solid;
  edge_names = c.in-Some.pieces.edges.items;
  numbered = c.recall_numbering.ensures.numbered;
  some = subst (λ o. IfSome o (λ (p : Pieces). 0 < length p.solid.shells)) c.in-Some.is c.in_ok-pieces.ensures.some;
  named = subst (λ o. IfSome o (λ (p : Pieces). ArePieces c.args.solid.now c.args.change.now c.args.shell.now.flag p.vertices.items p.edges.items p.solid)) c.in-Some.is
      c.in_ok-pieces.ensures.named;
  closed = c.in_ok-closed.ensures c.if-not-closed.false;
}
