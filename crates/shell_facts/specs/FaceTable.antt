-- The faces of a solid, each at each vertex that it touches.
use Rattle.std.specs.Prelude.{ℕ, List, [], ◌∷◌, length, map, flat_map, Option, Some, None, slice_get}
use Rattle.std.specs.List.{enumerate_from}
use Rattle.iges_base.specs.declared.entry_no.EntryNo.{EntryNo}
use Rattle.solid_data.specs.Ring.{numbers_from}
use Rattle.solid_data.specs.SolidData.{SolidData, occurring}
use Rattle.solid_data.specs.declared.solid.FaceUse.{FaceUse}
use Rattle.solid_data.specs.declared.solid.Shell.{Shell}
use Rattle.edge_uses.specs.Before.{face_vertices}
use Rattle.shell_facts.specs.declared.faces.FaceAtVertex.{FaceAtVertex}

-- a face of shell k at a vertex
abbrev pub at_vertex : ℕ → EntryNo → ℕ → FaceAtVertex
at_vertex k face v = record { vertex = v; shell = k; face = face }

-- the face at each vertex that it touches, by rising number
abbrev pub face_touches : SolidData → ℕ → FaceUse → List FaceAtVertex
face_touches s k f = map (at_vertex k f.entity) (occurring (numbers_from 0 (length s.vertices)) (face_vertices s f))

abbrev pub shell_touches : SolidData → ℕ × Shell → List FaceAtVertex
shell_touches s h = flat_map (face_touches s h.0) h.1.faces

-- all faces of the solid, in order
abbrev pub touches_of : SolidData → List FaceAtVertex
touches_of s = flat_map (shell_touches s) (enumerate_from 0 s.shells)

abbrev pub vertex_of : FaceAtVertex → ℕ
vertex_of t = t.vertex

-- a face that is there, after the number of its shell
abbrev pub listed_at : Option FaceAtVertex → List (ℕ × EntryNo)
listed_at None = []
listed_at (Some t) = (t.shell, t.face) ∷ []

-- the face at a place of the table
abbrev pub listed_from : List FaceAtVertex → ℕ → List (ℕ × EntryNo)
listed_from ts n = listed_at (slice_get ts n)

abbrev pub shell_if : Option FaceAtVertex → ℕ
shell_if None = 0
shell_if (Some t) = t.shell

-- the shell of the face at a place of the table; 0 past its end
abbrev pub shell_there : List FaceAtVertex → ℕ → ℕ
shell_there ts n = shell_if (slice_get ts n)
