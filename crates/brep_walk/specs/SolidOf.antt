-- The solid that a file's records describe.
use Rattle.std.specs.Prelude.{ℕ, Bool, ℤ, pos, List, [], ◌∷◌, map, flat_map, Option, Some, None, if◌then◌else◌}
use Rattle.iges_base.specs.declared.entry_no.EntryNo.{EntryNo}
use Rattle.iges_params.specs.Contents.{Contents}
use Rattle.brep_lists.specs.Record.{LoopTuple}
use Rattle.brep_lists.specs.declared.edge_list.EdgeTuple.{EdgeTuple}
use Rattle.brep_numbering.specs.Keys.{Keys}
use Rattle.brep_walk.specs.Places.{shells, faces, loops, tuples, edge_at, numbers}
use Rattle.solid_data.specs.Ring.{distinct, place_of}
use Rattle.solid_data.specs.Obligations.{entry_number}
use Rattle.solid_data.specs.SolidData.{SolidData, same_edge, same_vertex}
use Rattle.solid_data.specs.declared.solid.Edge.{Edge}
use Rattle.solid_data.specs.declared.solid.EdgeKey.{EdgeKey}
use Rattle.solid_data.specs.declared.solid.VertexKey.{VertexKey}
use Rattle.solid_data.specs.declared.solid.LoopUse.{LoopUse}
use Rattle.solid_data.specs.declared.solid.LoopUse.TheVariants.{EdgeUse, VertexUse}
use Rattle.solid_data.specs.declared.solid.Loop.{Loop}
use Rattle.solid_data.specs.declared.solid.FaceUse.{FaceUse}
use Rattle.solid_data.specs.declared.solid.Shell.{Shell}

abbrev pub entry_no : ℤ → EntryNo
entry_no z = record { 0 = entry_number z }

abbrev pub edge_key : ℤ → ℤ → EdgeKey
edge_key e j = record { «list» = entry_no e; index = entry_number j }

abbrev pub vertex_key : ℤ → ℤ → VertexKey
vertex_key v j = record { «list» = entry_no v; index = entry_number j }

-- the tuples of all loops, in file order
abbrev pub all_tuples : Contents → ℤ → List LoopTuple
all_tuples f n = flat_map (tuples f) (flat_map (loops f) (flat_map (λ s. numbers (faces f s)) (numbers (shells f n))))

abbrev pub edge_named : LoopTuple → List EdgeKey
edge_named t = if t.is_vertex then [] else edge_key t.«list» t.index ∷ []

abbrev pub ends_named : Option EdgeTuple → List VertexKey
ends_named None = []
ends_named (Some e) = vertex_key e.start_list e.start_index ∷ vertex_key e.end_list e.end_index ∷ []

-- the vertex of a tuple, or the start and the end of its edge
abbrev pub vertices_named : Contents → LoopTuple → List VertexKey
vertices_named f t = if t.is_vertex then vertex_key t.«list» t.index ∷ [] else ends_named (edge_at f t.«list» (entry_number t.index))

-- the edges and the vertices, each where it appears first
abbrev pub edge_keys : Contents → ℤ → List EdgeKey
edge_keys f n = distinct same_edge (flat_map edge_named (all_tuples f n))

abbrev pub vertex_keys : Contents → ℤ → List VertexKey
vertex_keys f n = distinct same_vertex (flat_map (vertices_named f) (all_tuples f n))

-- What the records describe, with the edges and the vertices numbered by these keys.

abbrev pub use_by : Keys → LoopTuple → LoopUse
use_by keys t =
    if t.is_vertex then VertexUse (record { 0 = place_of same_vertex keys.vertices (vertex_key t.«list» t.index) })
    else EdgeUse (record { 0 = place_of same_edge keys.edges (edge_key t.«list» t.index) }) t.flag

abbrev pub loop_by : Contents → Keys → ℤ → Loop
loop_by f keys l = record { entity = entry_no l; uses = map (use_by keys) (tuples f l) }

abbrev pub face_by : Contents → Keys → ℤ × Bool → FaceUse
face_by f keys item = record { entity = entry_no item.0; flag = item.1; loops = map (loop_by f keys) (loops f item.0) }

abbrev pub shell_by : Contents → Keys → ℤ × Bool → Shell
shell_by f keys item = record { entity = entry_no item.0; flag = item.1; faces = map (face_by f keys) (faces f item.0) }

-- an edge with the numbers of its vertices
abbrev pub numbered_by : Keys → EdgeKey → Option EdgeTuple → List Edge
numbered_by keys key None = []
numbered_by keys key (Some e) = record {
  key = key;
  from = record { 0 = place_of same_vertex keys.vertices (vertex_key e.start_list e.start_index) };
  to = record { 0 = place_of same_vertex keys.vertices (vertex_key e.end_list e.end_index) };
} ∷ []

abbrev pub edge_by : Contents → Keys → EdgeKey → List Edge
edge_by f keys key = numbered_by keys key (edge_at f (pos key.«list».0) key.index)

-- those of the solid

abbrev pub keys_of : Contents → ℤ → Keys
keys_of f n = record { edges = edge_keys f n; vertices = vertex_keys f n }

abbrev pub use_of : Contents → ℤ → LoopTuple → LoopUse
use_of f n t = use_by (keys_of f n) t

abbrev pub loop_of : Contents → ℤ → ℤ → Loop
loop_of f n l = loop_by f (keys_of f n) l

abbrev pub face_of : Contents → ℤ → ℤ × Bool → FaceUse
face_of f n item = face_by f (keys_of f n) item

abbrev pub shell_of : Contents → ℤ → ℤ × Bool → Shell
shell_of f n item = shell_by f (keys_of f n) item

abbrev pub numbered_edge : Contents → ℤ → EdgeKey → Option EdgeTuple → List Edge
numbered_edge f n key e = numbered_by (keys_of f n) key e

abbrev pub edge_of : Contents → ℤ → EdgeKey → List Edge
edge_of f n key = edge_by f (keys_of f n) key

-- The solid of the records: an edge's number and a vertex's is its place in order of first appearance.
unfoldable pub solid_of : Contents → ℕ → SolidData
solid_of f n = record {
  entity = record { 0 = n };
  shells = map (shell_of f (pos n)) (shells f (pos n));
  edges = flat_map (edge_of f (pos n)) (edge_keys f (pos n));
  vertices = vertex_keys f (pos n);
}

-- A solid of an entry whose shells are these, each given by its number and its flag. Edges and vertices are numbered by first appearance over these shells.

-- the tuples of the shells' loops, in file order
abbrev pub tuples_in : Contents → List (ℤ × Bool) → List LoopTuple
tuples_in f items = flat_map (tuples f) (flat_map (loops f) (flat_map (λ s. numbers (faces f s)) (numbers items)))

abbrev pub edges_in : Contents → List (ℤ × Bool) → List EdgeKey
edges_in f items = distinct same_edge (flat_map edge_named (tuples_in f items))

abbrev pub vertices_in : Contents → List (ℤ × Bool) → List VertexKey
vertices_in f items = distinct same_vertex (flat_map (vertices_named f) (tuples_in f items))

abbrev pub keys_in : Contents → List (ℤ × Bool) → Keys
keys_in f items = record { edges = edges_in f items; vertices = vertices_in f items }

unfoldable pub solid_listing : Contents → ℕ → List (ℤ × Bool) → SolidData
solid_listing f n items = record {
  entity = record { 0 = n };
  shells = map (shell_by f (keys_in f items)) items;
  edges = flat_map (edge_by f (keys_in f items)) (edges_in f items);
  vertices = vertices_in f items;
}
