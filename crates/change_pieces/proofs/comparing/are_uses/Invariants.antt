use Rattle.change_pieces.specs.Names.{IsUse}
use Rattle.shell_change.proofs.Matching.{EachBelow, each_pair}
use Rattle.change_pieces.proofs.comparing.are_uses.Given as goal

abbrev pub invariant-uses : goal.invariant-uses
invariant-uses l = EachBelow (each_pair (IsUse l.vertices l.edges) l.now) l.uses l.i
