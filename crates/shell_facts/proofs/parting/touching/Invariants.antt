use Rattle.std.proofs.Common.{◌≡◌, ◌++◌, drop, flat_map}
use Rattle.shell_facts.specs.PartTables.{low_vertex}
use Rattle.shell_facts.proofs.parting.touching.Given as goal

abbrev pub invariant-vertices : goal.invariant-vertices
invariant-vertices l = l.out.items ++ flat_map (low_vertex l.lows l.first) (drop l.i l.vertices) ≡ flat_map (low_vertex l.lows l.first) l.vertices
