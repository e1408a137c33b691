use Rattle.std.specs.Prelude.{Contains}
use Rattle.shell_change.specs.declared.change.NewVertex.{NewVertex}
use Rattle.shell_change.proofs.Matching.{EachBelow}
use Rattle.change_names.proofs.names.vertices_are_own.Given as goal

abbrev pub invariant-vertices : goal.invariant-vertices
invariant-vertices l = EachBelow (λ _ (n : NewVertex). Contains l.rows.vertices n.like.0) l.vertices l.i
