-- What a face uses.
use Rattle.std.specs.Prelude.{◌≡◌, ℕ, List, ◌++◌, flat_map}
use Rattle.solid_data.specs.SolidData.{SolidData, edge_used}
use Rattle.solid_data.specs.declared.solid.FaceUse.{FaceUse}
use Rattle.solid_data.specs.declared.solid.Loop.{Loop}
use Rattle.edge_uses.specs.Before.{face_vertices}
use Rattle.shell_components.specs.declared.used.Used.{Used}

-- the edges that the loops of a face use, as they appear
abbrev pub loop_edges : Loop → List ℕ
loop_edges l = flat_map edge_used l.uses

abbrev pub face_edges : FaceUse → List ℕ
face_edges f = flat_map loop_edges f.loops

-- what some faces use has been added
pub record AddedFaces (s : SolidData) (old new : Used) (faces : List FaceUse) : Type 0 where
  pub edges : new.edges.items ≡ old.edges.items ++ flat_map face_edges faces
  pub vertices : new.vertices.items ≡ old.vertices.items ++ flat_map (face_vertices s) faces
