use Rattle.std.proofs.Common.{◌≡◌, ◌++◌, drop, flat_map}
use Rattle.edge_uses.specs.Before.{face_vertices}
use Rattle.shell_components.specs.FaceUses.{face_edges}
use Rattle.shell_counts.proofs.counting.used_by_all.Given as goal

abbrev pub invariant-faces : goal.invariant-faces
invariant-faces l = record {
  edges : l.used.edges.items ++ flat_map face_edges (drop l.i l.faces) ≡ flat_map face_edges l.faces;
  vertices : l.used.vertices.items ++ flat_map (face_vertices l.solid) (drop l.i l.faces) ≡ flat_map (face_vertices l.solid) l.faces;
}
