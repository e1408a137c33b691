-- How vertices and faces are named in a line.
use Rattle.std.specs.Prelude.{ℕ, ◌+◌, ◌-◌, ◌*◌, ℤ, pos, List, ◌++◌, decimal}
use Rattle.iges_base.specs.declared.entry_no.EntryNo.{EntryNo}
use Rattle.iges_params.specs.Contents.{Contents}
use Rattle.iges_params.specs.Named.{values_of}
use Rattle.brep_lists.specs.Record.{int_at, value_or_default}
use Rattle.solid_data.specs.declared.solid.VertexKey.{VertexKey}
use Rattle.where_text.specs.Spelled.{listed, space_word}
use Rattle.where_text.specs.Types.{type_of}

-- one of the three coordinates of a vertex, from 0: after the count of its list there are three values for each vertex
unfoldable pub coordinate : Contents → VertexKey → ℕ → List ℕ
coordinate f key axis = listed (value_or_default (values_of f (pos key.«list».0)) (3 * key.index + axis - 2))

-- a vertex: the number of its list, its index there, and its coordinates
unfoldable pub vertex_words : Contents → VertexKey → List ℕ
vertex_words f key =
    space_word (decimal key.«list».0) ++ space_word (decimal key.index) ++ space_word (coordinate f key 0) ++ space_word (coordinate f key 1)
    ++ space_word (coordinate f key 2)

-- the number of the surface that a face's record names first
abbrev pub surface_of : Contents → EntryNo → ℤ
surface_of f face = int_at (values_of f (pos face.0)) 0

-- a face: its number, and the type of its surface
unfoldable pub face_words : Contents → EntryNo → List ℕ
face_words f face = space_word (decimal face.0) ++ space_word (type_of f (surface_of f face))
