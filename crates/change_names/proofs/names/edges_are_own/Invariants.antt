use Rattle.change_names.specs.Names.{NewEdgeIsOwn}
use Rattle.shell_change.proofs.Matching.{EachBelow}
use Rattle.change_names.proofs.names.edges_are_own.Given as goal

abbrev pub invariant-edges : goal.invariant-edges
invariant-edges l = EachBelow (λ _ n. NewEdgeIsOwn l.rows n) l.edges l.i
