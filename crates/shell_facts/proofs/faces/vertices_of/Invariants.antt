use Rattle.std.proofs.Common.{◌≡◌, ◌++◌, drop, map}
use Rattle.shell_facts.specs.FaceTable.{vertex_of}
use Rattle.shell_facts.proofs.faces.vertices_of.Given as goal

abbrev pub invariant-touches : goal.invariant-touches
invariant-touches l = l.out.items ++ map vertex_of (drop l.i l.touches) ≡ map vertex_of l.touches
