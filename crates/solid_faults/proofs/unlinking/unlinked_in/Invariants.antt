use Rattle.std.proofs.Common.{◌≡◌, ◌++◌, drop, flat_map}
use Rattle.solid_faults.specs.Fans.{vertex_unlinked, unlinked_of}
use Rattle.solid_faults.proofs.unlinking.unlinked_in.Given as goal

abbrev pub invariant-vertices : goal.invariant-vertices
invariant-vertices l = l.out.items ++ flat_map (vertex_unlinked l.rows l.leasts) (drop l.i l.rows.vertices) ≡ unlinked_of l.rows l.leasts
