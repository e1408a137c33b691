use Rattle.shell_change.specs.Fits.{FaceFits}
use Rattle.shell_change.proofs.Matching.{EachBelow, each_pair}
use Rattle.shell_change.proofs.loops.faces_fit.Given as goal

abbrev pub invariant-faces : goal.invariant-faces
invariant-faces l = EachBelow (each_pair (FaceFits l.solid l.geometry l.change) (l.old)) l.now l.i
