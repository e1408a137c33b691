use Rattle.edge_uses.specs.Before.{AreBelow}
use Rattle.shell_change.proofs.Matching.{EachBelow}
use Rattle.shell_rules.specs.Closed.{IsClosedShell}
use Rattle.change_passes.specs.Passes.{pieces_before}
use Rattle.change_passes.proofs.judging.are_closed.Given as goal

abbrev pub invariant-pieces : goal.invariant-pieces
invariant-pieces l = record {
  below : AreBelow l.pieces l.k l.below;
  closed : EachBelow (λ piece h. IsClosedShell l.pieces (pieces_before l.of.0 piece) h) l.pieces.shells l.k;
}
