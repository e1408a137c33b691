-- Private: obligations at the places of a walk.
use Rattle.std.specs.Prelude.{ℤ, pos, Bool, List, [], length, Some}
use Rattle.iges_base.specs.declared.entry_no.EntryNo.{EntryNo}
use Rattle.iges_params.specs.Contents.{Contents}
use Rattle.brep_lists.specs.Record.{LoopTuple}
use Rattle.brep_lists.specs.declared.entity_kind.EntityKind.{EntityKind}
use Rattle.brep_lists.specs.declared.entity_kind.EntityKind.TheVariants.{EdgeList as edges, VertexList as vertices}
use Rattle.brep_lists.specs.declared.edge_list.EdgeTuple.{EdgeTuple}
use Rattle.solid_data.specs.declared.place.Place.{Place}
use Rattle.brep_walk.specs.Places.{told, record_places, item_places, edge_places, used_places, tuple_at, tuple_places}
use Rattle.solid_data.specs.Obligations.{Obligation, after_each}

-- What the item at a place must name.

abbrev pub record_here : Contents → Place → EntityKind → ℤ → List Obligation
record_here f at kind number = record_places f (pos at.entity.0) at.item kind number

abbrev pub vertex_here : Contents → Place → ℤ → ℤ → List Obligation
vertex_here f at number index = item_places f (pos at.entity.0) at.item vertices number index (length (told vertices f number))

abbrev pub edge_here : Contents → Place → ℤ → ℤ → List Obligation
edge_here f at number index = item_places f (pos at.entity.0) at.item edges number index (length (told edges f number))

abbrev pub ends_here : Contents → Place → EdgeTuple → List Obligation
ends_here f at edge = edge_places f (pos at.entity.0) at.item (Some edge)

abbrev pub used_here : Contents → Place → LoopTuple → Bool → List Obligation
used_here f at t is_vertex = used_places f (pos at.entity.0) at.item t.«list» t.index is_vertex

abbrev pub tuple_here : Contents → Place → LoopTuple → List Obligation
tuple_here f at t = tuple_at f (pos at.entity.0) at.item t

-- What all tuples of a loop must name.
abbrev pub tuples_in_loop : Contents → EntryNo → List LoopTuple → List Obligation
tuples_in_loop f entity ts = after_each (tuple_places f (pos entity.0)) [] ts
