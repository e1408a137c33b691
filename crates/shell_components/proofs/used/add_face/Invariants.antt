use Rattle.std.proofs.Common.{◌≡◌, ◌++◌, drop, flat_map}
use Rattle.edge_uses.specs.Before.{loop_vertices, face_vertices}
use Rattle.shell_components.specs.FaceUses.{loop_edges, face_edges}
use Rattle.shell_components.proofs.used.add_face.Given as goal

abbrev pub invariant-loops : goal.invariant-loops
invariant-loops l = record {
  edges : l.used.edges.items ++ flat_map loop_edges (drop l.i l.loops) ≡ l.fn.used.edges.items ++ face_edges l.face;
  vertices : l.used.vertices.items ++ flat_map (loop_vertices l.solid) (drop l.i l.loops) ≡ l.fn.used.vertices.items ++ face_vertices l.solid l.face;
}
