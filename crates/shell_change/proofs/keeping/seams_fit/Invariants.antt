use Rattle.shell_change.specs.Seams.{SeamFits}
use Rattle.shell_change.proofs.Matching.{EachBelow}
use Rattle.shell_change.proofs.keeping.seams_fit.Given as goal

abbrev pub invariant-seams : goal.invariant-seams
invariant-seams l = EachBelow (λ _ x. SeamFits l.solid l.geometry x) l.seams l.i
