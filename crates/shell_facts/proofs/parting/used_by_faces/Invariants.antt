use Rattle.std.proofs.Common.{◌≡◌, ◌++◌, drop, flat_map}
use Rattle.edge_uses.specs.Before.{face_vertices}
use Rattle.shell_components.specs.FaceUses.{face_edges}
use Rattle.shell_facts.specs.PartTables.{faces_numbered}
use Rattle.shell_facts.proofs.parting.used_by_faces.Given as goal

abbrev pub invariant-faces : goal.invariant-faces
invariant-faces l = record {
  edges : l.used.edges.items ++ flat_map face_edges (faces_numbered l.shell (drop l.i l.faces)) ≡ flat_map face_edges (faces_numbered l.shell l.faces);
  vertices : l.used.vertices.items ++ flat_map (face_vertices l.solid) (faces_numbered l.shell (drop l.i l.faces))
      ≡ flat_map (face_vertices l.solid) (faces_numbered l.shell l.faces);
}
