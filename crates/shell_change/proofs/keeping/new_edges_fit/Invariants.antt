use Rattle.shell_change.specs.UseFits.{NewEdgeFits}
use Rattle.shell_change.proofs.Matching.{EachBelow}
use Rattle.shell_change.proofs.keeping.new_edges_fit.Given as goal

abbrev pub invariant-edges : goal.invariant-edges
invariant-edges l = EachBelow (λ _ n. NewEdgeFits l.solid l.geometry l.change n) l.edges l.i
