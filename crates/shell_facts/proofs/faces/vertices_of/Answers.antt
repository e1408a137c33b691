use Rattle.std.proofs.Common.{arith}
use Rattle.shell_facts.specs.FaceTable.{vertex_of}
use Rattle.shell_facts.proofs.EdgeRows.{mapped_done}
use Rattle.shell_facts.proofs.faces.vertices_of.Goals as goal

pub returns : goal.returns
returns c = mapped_done vertex_of c.args.touches.now c.touches.i c.touches.out.items _ (omega (arith, c.touches-test.false)) c.touches.invariant
