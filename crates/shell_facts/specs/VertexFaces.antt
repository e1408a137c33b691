-- Which faces touch a vertex.
use Rattle.std.specs.Prelude.{◌==◌, nat_lt, ℕ, List, [], ◌∷◌, map, flat_map, if◌then◌else◌}
use Rattle.std.specs.List.{enumerate_from, list_any}
use Rattle.iges_base.specs.declared.entry_no.EntryNo.{EntryNo}
use Rattle.solid_data.specs.SolidData.{SolidData}
use Rattle.solid_data.specs.declared.solid.FaceUse.{FaceUse}
use Rattle.solid_data.specs.declared.solid.Shell.{Shell}
use Rattle.edge_uses.specs.Before.{face_vertices}

-- the face, where one of its uses touches the vertex
abbrev pub face_if : SolidData → ℕ → FaceUse → List EntryNo
face_if s v f = if list_any (λ m. m == v) (face_vertices s f) then f.entity ∷ [] else []

-- the faces of a shell that touch the vertex, as listed
abbrev pub faces_at : SolidData → ℕ → Shell → List EntryNo
faces_at s v shell = flat_map (face_if s v) shell.faces

-- those of shell j, with its number; nothing of a shell after shell k
abbrev pub numbered_faces : SolidData → ℕ → ℕ → ℕ × Shell → List (ℕ × EntryNo)
numbered_faces s k v (j, shell) = if nat_lt k j then [] else map (λ e. (j, e)) (faces_at s v shell)

-- those of shell k and of the shells before it, shell by shell
abbrev pub faces_up_to : SolidData → ℕ → ℕ → List (ℕ × EntryNo)
faces_up_to s k v = flat_map (numbered_faces s k v) (enumerate_from 0 s.shells)
