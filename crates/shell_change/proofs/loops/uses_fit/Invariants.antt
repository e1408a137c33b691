use Rattle.shell_change.specs.UseFits.{UseFits}
use Rattle.shell_change.specs.Fits.{uses_before}
use Rattle.shell_change.proofs.Matching.{EachBelow, each_pair}
use Rattle.shell_change.proofs.loops.uses_fit.Given as goal

abbrev pub invariant-uses : goal.invariant-uses
invariant-uses l = EachBelow (each_pair (UseFits l.solid l.geometry l.change) (uses_before l.old l.reversed)) l.now l.i
