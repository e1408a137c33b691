-- Private: the parts of a solid that is one shell.
use Rattle.std.specs.Prelude.{ℕ, pos, true, List, [], ◌∷◌, map, flat_map}
use Rattle.iges_params.specs.Contents.{Contents}
use Rattle.brep_numbering.specs.Keys.{Keys}
use Rattle.brep_walk.specs.Places.{faces}
use Rattle.brep_walk.specs.SolidOf.{face_by, edge_by, edges_in, keys_in}
use Rattle.solid_data.specs.declared.solid.Edge.{Edge}
use Rattle.solid_data.specs.declared.solid.FaceUse.{FaceUse}

-- its edges and its vertices, each where it appears first
unfoldable pub shell_keys : Contents → ℕ → Keys
shell_keys f n = keys_in f ((pos n, true) ∷ [])

unfoldable pub shell_faces : Contents → ℕ → List FaceUse
shell_faces f n = map (face_by f (keys_in f ((pos n, true) ∷ []))) (faces f (pos n))

unfoldable pub shell_edges : Contents → ℕ → List Edge
shell_edges f n = flat_map (edge_by f (keys_in f ((pos n, true) ∷ []))) (edges_in f ((pos n, true) ∷ []))
