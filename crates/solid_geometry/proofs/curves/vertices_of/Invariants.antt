use Rattle.std.proofs.Common.{◌≡◌, take}
use Rattle.solid_geometry.proofs.curves.vertices_of.Given as goal

abbrev pub invariant-vertices : goal.invariant-vertices
invariant-vertices l = l.vertices.items ≡ take l.i l.solid.vertices
