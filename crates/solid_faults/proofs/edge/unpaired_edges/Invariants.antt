use Rattle.std.proofs.Common.{◌≡◌, ◌++◌, drop, flat_map}
use Rattle.solid_faults.specs.Edges.{edge_unpaired, unpaired_of}
use Rattle.solid_faults.proofs.edge.unpaired_edges.Given as goal

abbrev pub invariant-edges : goal.invariant-edges
invariant-edges l = l.out.items ++ flat_map (edge_unpaired l.rows) (drop l.i l.rows.edges) ≡ unpaired_of l.rows
