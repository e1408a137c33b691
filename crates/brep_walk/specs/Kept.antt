-- Private: the lists of edges and of vertices that a walk has looked at.
use Rattle.std.specs.Prelude.{◌≡◌, ◌<◌, ◌^◌, ℕ, ℤ, pos, List, length, Some, slice_get}
use Rattle.iges_base.specs.declared.entry_no.EntryNo.{EntryNo}
use Rattle.iges_params.specs.Contents.{Contents}
use Rattle.brep_lists.specs.declared.entity_kind.EntityKind.{EntityKind}
use Rattle.brep_lists.specs.declared.entity_kind.EntityKind.TheVariants.{EdgeList as edges, VertexList as vertices}
use Rattle.brep_lists.specs.declared.edge_list.EdgeTuple.{EdgeTuple}
use Rattle.brep_walk.specs.Places.{told, record_places}
use Rattle.solid_data.specs.Obligations.{AllHold}

-- the number names a record of the kind, at whatever place it is
abbrev pub NamesRecord : EntityKind → Contents → ℤ → Type 0
NamesRecord kind f z = AllHold (record_places f (pos 0) 0 kind z)

-- What is kept of a list: its entry, and its edges, or how many vertices it has.

pub record IsEdgeList (f : Contents) (z : ℤ) (kept : EntryNo × List EdgeTuple) : Type 0 where
  pub number : z ≡ pos kept.0.0
  pub holds : NamesRecord edges f z
  pub items : kept.1 ≡ told edges f z
  pub few : length kept.1 < 2 ^ 31

pub record IsVertexList (f : Contents) (z : ℤ) (kept : EntryNo × ℕ) : Type 0 where
  pub number : z ≡ pos kept.0.0
  pub holds : NamesRecord vertices f z
  pub count : kept.1 ≡ length (told vertices f z)

-- Each list that is kept is that of its entry.
pub record AreKept (f : Contents) (edge_lists : List (EntryNo × List EdgeTuple)) (vertex_lists : List (EntryNo × ℕ)) : Type 0 where
  pub edges : (i : ℕ) (kept : EntryNo × List EdgeTuple) → slice_get edge_lists i ≡ Some kept → IsEdgeList f (pos kept.0.0) kept
  pub vertices : (i : ℕ) (kept : EntryNo × ℕ) → slice_get vertex_lists i ≡ Some kept → IsVertexList f (pos kept.0.0) kept
