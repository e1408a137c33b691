use Rattle.std.proofs.Common.{arith}
use Rattle.solid_faults.specs.declared.edge.Unpaired.{Unpaired}
use Rattle.shell_facts.proofs.EdgeRows.{mapped_done}
use Rattle.shell_facts.proofs.parting.numbers_of.Goals as goal

pub returns : goal.returns
returns c =
    mapped_done (λ (u : Unpaired). u.edge.0) c.args.unpaired.now c.edges.i c.edges.edges.items _ (omega (arith, c.edges-test.false)) c.edges.invariant
