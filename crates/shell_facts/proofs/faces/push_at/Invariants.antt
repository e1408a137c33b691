use Rattle.std.proofs.Common.{◌≡◌, ◌++◌, drop, map}
use Rattle.shell_facts.specs.FaceTable.{at_vertex}
use Rattle.shell_facts.proofs.faces.push_at.Given as goal

abbrev pub invariant-vertices : goal.invariant-vertices
invariant-vertices l = l.out.items ++ map (at_vertex l.shell l.face) (drop l.i l.vertices) ≡ l.fn.out.items ++ map (at_vertex l.shell l.face) l.vertices
