use Rattle.change_pieces.specs.Pieces.{IsLoop}
use Rattle.shell_change.proofs.Matching.{EachBelow, each_pair}
use Rattle.change_pieces.proofs.comparing.are_loops.Given as goal

abbrev pub invariant-loops : goal.invariant-loops
invariant-loops l = EachBelow (each_pair (IsLoop l.vertices l.edges) l.now) l.loops l.i
