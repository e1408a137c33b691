use Rattle.shell_change.specs.Moves.{MoveFits}
use Rattle.shell_change.proofs.Matching.{EachBelow}
use Rattle.shell_change.proofs.keeping.moves_fit.Given as goal

abbrev pub invariant-moves : goal.invariant-moves
invariant-moves l = EachBelow (MoveFits l.solid l.geometry l.change) l.moves l.i
