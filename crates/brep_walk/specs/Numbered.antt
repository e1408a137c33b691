-- Private: edges and vertices as a walk numbers them.
use Rattle.std.specs.Prelude.{◌≡◌, ℤ, pos, Bool, true, List, ◌++◌, flat_map}
use Rattle.std.specs.List.{list_any, AllByRecursion}
use Rattle.indexmap.specs.IndexSet.{insert_all}
use Rattle.iges_params.specs.Contents.{Contents}
use Rattle.brep_lists.specs.Record.{LoopTuple}
use Rattle.solid_data.specs.Obligations.{AllHold}
use Rattle.solid_data.specs.SolidData.{same_edge, same_vertex}
use Rattle.solid_data.specs.declared.solid.EdgeKey.{EdgeKey}
use Rattle.solid_data.specs.declared.solid.VertexKey.{VertexKey}
use Rattle.brep_walk.specs.Places.{faces, loops, tuples, edge_at, edge_places}
use Rattle.brep_numbering.specs.Keys.{Keys}
use Rattle.brep_numbering.specs.Numbered.{Numbered}
use Rattle.brep_walk.specs.SolidOf.{edge_named, ends_named, vertices_named, edge_by}

-- Later keys begin with the earlier ones.
pub record Extends (old new : Keys) : Type 0 where
  pub more_edges : List EdgeKey
  pub edges : new.edges ≡ old.edges ++ more_edges
  pub more_vertices : List VertexKey
  pub vertices : new.vertices ≡ old.vertices ++ more_vertices

-- the keys once those that the tuples name have appeared
abbrev pub keys_after : Contents → Keys → List LoopTuple → Keys
keys_after f keys ts = record {
  edges = insert_all same_edge keys.edges (flat_map edge_named ts);
  vertices = insert_all same_vertex keys.vertices (flat_map (vertices_named f) ts);
}

-- the tuples of a face's loops, and of a shell's faces, in file order; an item is a number and its flag
abbrev pub face_tuples : Contents → ℤ × Bool → List LoopTuple
face_tuples f item = flat_map (tuples f) (loops f item.0)

abbrev pub shell_tuples : Contents → ℤ × Bool → List LoopTuple
shell_tuples f item = flat_map (face_tuples f) (faces f item.0)

-- x is what the keys make, whatever keys come after them
abbrev pub IsMadeBy : {X : Type 0} → Keys → (Keys → X) → X → Type 0
IsMadeBy keys make x = (later : Keys) → Extends keys later → x ≡ make later

-- the edges are those of their keys
abbrev pub AreEdges : Contents → Numbered → Type 0
AreEdges f n = IsMadeBy n.keys (λ later. flat_map (edge_by f later) n.keys.edges) n.edges

-- these vertices are among those numbered
abbrev pub AreNumbered : List VertexKey → List VertexKey → Type 0
AreNumbered numbered keys = AllByRecursion (λ key. list_any (same_vertex key) numbered ≡ true) keys

-- The places of the key's edge hold, and its vertices are numbered.
pub record IsKnownEdge (f : Contents) (keys : Keys) (key : EdgeKey) : Type 0 where
  pub holds : AllHold (edge_places f (pos key.«list».0) key.index (edge_at f (pos key.«list».0) key.index))
  pub vertices : AreNumbered keys.vertices (ends_named (edge_at f (pos key.«list».0) key.index))

-- each edge that is numbered is known
abbrev pub AreKnownEdges : Contents → Keys → Type 0
AreKnownEdges f keys = (key : EdgeKey) → list_any (same_edge key) keys.edges ≡ true → IsKnownEdge f keys key

-- The keys that the tuples name have appeared.
pub record Advances (f : Contents) (ts : List LoopTuple) (old new : Numbered) : Type 0 where
  pub keys : new.keys ≡ keys_after f old.keys ts
  pub edges : AreEdges f old → AreEdges f new
