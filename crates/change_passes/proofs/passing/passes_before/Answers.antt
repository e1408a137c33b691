use Rattle.std.specs.Prelude.{List, IfSome}
use Rattle.std.proofs.Common.{subst}
use Rattle.shell_change.specs.declared.change.VertexName.{VertexName}
use Rattle.shell_change.specs.Matching.{EachAt}
use Rattle.change_passes.specs.Closed.{HaveClosed}
use Rattle.change_passes.specs.Passes.{IsOldApart}
use Rattle.change_passes.proofs.Pieces.{passing}
use Rattle.change_passes.proofs.passing.passes_before.Goals as goal

pub returns : goal.returns
returns c = λ t.
    passing c.args.solid.now c.args.change.now c.in-Some.vertices.items
    (subst (λ o. IfSome o (λ vs. HaveClosed c.args.solid.now c.args.change.now vs.items)) c.in-Some.is c.in_ok-closed.ensures)
    (subst (λ (vs : List VertexName). EachAt (λ _ name. IsOldApart c.args.solid.now c.args.change.now.shell.0 name) vs) c.as_slice.ensures.value
    (c.are_apart.ensures c.args.solid.now c.args.change.now.shell.0 c.requires t))
