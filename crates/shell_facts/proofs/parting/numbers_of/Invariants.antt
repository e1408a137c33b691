use Rattle.std.proofs.Common.{◌≡◌, ◌++◌, drop, map}
use Rattle.solid_faults.specs.declared.edge.Unpaired.{Unpaired}
use Rattle.shell_facts.proofs.parting.numbers_of.Given as goal

abbrev pub invariant-edges : goal.invariant-edges
invariant-edges l = l.edges.items ++ map (λ (u : Unpaired). u.edge.0) (drop l.i l.unpaired) ≡ map (λ (u : Unpaired). u.edge.0) l.unpaired
