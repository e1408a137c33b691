use Rattle.change_names.specs.Names.{SeamIsOwn}
use Rattle.shell_change.proofs.Matching.{EachBelow}
use Rattle.change_names.proofs.names.seams_are_own.Given as goal

abbrev pub invariant-seams : goal.invariant-seams
invariant-seams l = EachBelow (λ _ x. SeamIsOwn l.rows x) l.seams l.i
