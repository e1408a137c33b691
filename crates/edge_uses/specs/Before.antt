-- The vertices of the first shells of a solid.
use Rattle.std.specs.Prelude.{ℕ, ◌+◌, ◌<◌, ◌↔◌, List, [], ◌∷◌, flat_map, max, take, Contains}
use Rattle.solid_data.specs.SolidData.{SolidData, vertices_used, shell_vertices}
use Rattle.solid_data.specs.declared.solid.FaceUse.{FaceUse}
use Rattle.solid_data.specs.declared.solid.Loop.{Loop}
use Rattle.solid_data.specs.declared.solid.Shell.{Shell}

-- the vertex is in no shell before shell k
abbrev pub IsApart : SolidData → ℕ → ℕ → Type 0
IsApart s k v = ¬ Contains (flat_map (shell_vertices s) (take k s.shells)) v

-- The vertices of the first k shells are the ones below n.
abbrev pub AreBelow : SolidData → ℕ → ℕ → Type 0
AreBelow s k n = (v : ℕ) → Contains (flat_map (shell_vertices s) (take k s.shells)) v ↔ (v < n)

-- one more than the greatest, or 0
abbrev pub above_of : List ℕ → ℕ
above_of [] = 0
above_of (x ∷ xs) = max (x + 1) (above_of xs)

-- the vertices of a loop, of a face and of its shell, as they appear
abbrev pub loop_vertices : SolidData → Loop → List ℕ
loop_vertices s l = flat_map (vertices_used s) l.uses

abbrev pub face_vertices : SolidData → FaceUse → List ℕ
face_vertices s f = flat_map (loop_vertices s) f.loops

abbrev pub faces_vertices : SolidData → Shell → List ℕ
faces_vertices s h = flat_map (face_vertices s) h.faces
