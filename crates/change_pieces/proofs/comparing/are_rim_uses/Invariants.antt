use Rattle.std.specs.Prelude.{List}
use Rattle.solid_data.specs.declared.solid.LoopUse.{LoopUse}
use Rattle.shell_change.specs.declared.change.RimEdge.{RimEdge}
use Rattle.shell_change.specs.declared.change.VertexName.{VertexName}
use Rattle.shell_change.proofs.Matching.{EachBelow, each_pair}
use Rattle.change_pieces.specs.Names.{IsUse}
use Rattle.change_pieces.specs.Pieces.{rim_use}
use Rattle.change_pieces.proofs.comparing.are_rim_uses.Given as goal

abbrev pub invariant-uses : goal.invariant-uses
invariant-uses l = (vs : List VertexName) → EachBelow (each_pair (λ (x : RimEdge) (u : LoopUse). IsUse vs l.edges (rim_use x) u) l.now) l.uses l.i
