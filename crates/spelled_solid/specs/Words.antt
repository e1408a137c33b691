-- Tables of the words by which texts name vertices and faces.
use Rattle.std.specs.Prelude.{◌≡◌, ◌⊎◌, ℕ, List, [], Some, slice_get}
use Rattle.iges_params.specs.Contents.{Contents}
use Rattle.solid_data.specs.SolidData.{SolidData, vertex_name}
use Rattle.where_text.specs.Places.{face_words, vertex_words}

-- a solid, and the file it is of
pub record FileSolid : Type 0 where
  pub file : Contents
  pub solid : SolidData

-- a vertex of the solid, by its number from 0
abbrev pub vertex_named : Contents → SolidData → ℕ → List ℕ
vertex_named f s v = vertex_words f (vertex_name (slice_get s.vertices v))

-- a face, by its directory number
abbrev pub face_named : Contents → ℕ → List ℕ
face_named f e = face_words f (record { 0 = e })

-- each row of the table is empty, or has what is told of its number
abbrev pub AreWords : (ℕ → List ℕ) → List (List ℕ) → Type 0
AreWords told words = (n : ℕ) (w : List ℕ) → slice_get words n ≡ Some w → (w ≡ []) ⊎ (w ≡ told n)

pub record AreTables (f : Contents) (s : SolidData) (of_vertices of_faces : List (List ℕ)) : Type 0 where
  pub vertices : AreWords (vertex_named f s) of_vertices
  pub faces : AreWords (face_named f) of_faces
