use Rattle.shell_change.specs.Fits.{LoopFits}
use Rattle.shell_change.proofs.Matching.{EachBelow, each_pair}
use Rattle.shell_change.proofs.loops.loops_fit.Given as goal

abbrev pub invariant-loops : goal.invariant-loops
invariant-loops l = EachBelow (each_pair (LoopFits l.solid l.geometry l.change) (l.old)) l.now l.i
