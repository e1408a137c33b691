-- The file whose lists hold only their used items.
use Rattle.std.specs.Prelude.{ℕ, ◌+◌, ◌*◌, Bool, if◌then◌else◌, ℤ, pos, List, [], ◌∷◌, ◌++◌, map, drop}
use Rattle.std.specs.List.{enumerate_from}
use Rattle.iges_fields.specs.declared.value.Value.{Value}
use Rattle.iges_fields.specs.declared.value.Value.TheVariants as value
use Rattle.iges_params.specs.Contents.{Contents}
use Rattle.brep_lists.specs.DueValues.{DueValue, pointer, number, flag, at_least_one, count, coordinate}
use Rattle.brep_lists.specs.Record.{LoopTuple, Items, due, items_of}
use Rattle.brep_lists.specs.declared.entity_kind.EntityKind.{EntityKind}
use Rattle.brep_lists.specs.declared.entity_kind.EntityKind.TheVariants.{Loop as «loop», EdgeList as edges, VertexList as vertices}
use Rattle.brep_lists.specs.OwnValues.{own_count}
use Rattle.brep_lists.specs.declared.edge_list.EdgeTuple.{EdgeTuple}
use Rattle.entry_references.specs.Refs.{Record}
use Rattle.solid_data.specs.Obligations.{entry_number}
use Rattle.list_compact.specs.Used.{is_kind, used_from, ranked, is_used_edge, is_used_vertex}

-- ---- indices

-- what becomes of an index in the list that a number names
abbrev pub edge_index : Contents → ℤ → ℤ → ℤ
edge_index g z j = ranked (is_used_edge g (entry_number z)) j

abbrev pub vertex_index : Contents → ℤ → ℤ → ℤ
vertex_index g z j = ranked (is_used_vertex g (entry_number z)) j

abbrev pub tuple_index : Contents → Bool → ℤ → ℤ → ℤ
tuple_index g is_vertex z j = if is_vertex then vertex_index g z j else edge_index g z j

abbrev pub reindexed_tuple : Contents → LoopTuple → LoopTuple
reindexed_tuple g t = record { is_vertex = t.is_vertex; «list» = t.list; index = tuple_index g t.is_vertex t.list t.index; flag = t.flag; curves = t.curves }

abbrev pub reindexed_edge : Contents → EdgeTuple → EdgeTuple
reindexed_edge g e = record {
  curve = e.curve;
  start_list = e.start_list;
  start_index = vertex_index g e.start_list e.start_index;
  end_list = e.end_list;
  end_index = vertex_index g e.end_list e.end_index;
}

-- ---- values

-- The values with the indices that are due in their places.
abbrev pub with_indices : List DueValue → List Value → List Value
with_indices [] vs = vs
with_indices (d ∷ ds) [] = []
with_indices (number z ∷ ds) (v ∷ vs) = value.Int z ∷ with_indices ds vs
with_indices (d ∷ ds) (v ∷ vs) = v ∷ with_indices ds vs

-- the value that is due, as it is spelled
abbrev pub spelled : DueValue → Value
spelled (pointer z) = value.Int z
spelled (number z) = value.Int z
spelled (flag b) = value.Int (if b then pos 1 else pos 0)
spelled (at_least_one n) = value.Int (pos n)
spelled (count n) = value.Int (pos n)
spelled (coordinate v) = v

-- The items in place of the own values, before what follows these.
abbrev pub with_items : (kind : EntityKind) → Items kind → List Value → List Value
with_items kind items vs = map spelled (due kind items) ++ drop (own_count kind vs) vs

-- where there are items, the values with them
abbrev pub unless_none : {X : Type 0} → List X → List Value → List Value → List Value
unless_none [] new old = old
unless_none (x ∷ xs) new old = new

-- the used edges, with the ranks of their vertices, and the used vertices
abbrev pub kept_edges : Contents → ℕ → List Value → List EdgeTuple
kept_edges g e vs = map (reindexed_edge g) (used_from (is_used_edge g e) 1 (items_of edges vs))

abbrev pub kept_vertices : Contents → ℕ → List Value → List (Value × Value × Value)
kept_vertices g v vs = used_from (is_used_vertex g v) 1 (items_of vertices vs)

-- A list of which no item is used stays whole.
abbrev pub edge_values : Contents → ℕ → List Value → List Value
edge_values g e vs = unless_none (kept_edges g e vs) (with_items edges (kept_edges g e vs) vs) vs

abbrev pub vertex_values : Contents → ℕ → List Value → List Value
vertex_values g v vs = unless_none (kept_vertices g v vs) (with_items vertices (kept_vertices g v vs) vs) vs

abbrev pub loop_values : Contents → List Value → List Value
loop_values g vs = with_indices (due «loop» (map (reindexed_tuple g) (items_of «loop» vs))) vs

-- the values of an entry with this number
abbrev pub dropped_values : Contents → ℕ → Record → List Value
dropped_values g e r =
    if is_kind «loop» r then loop_values g r.1
    else if is_kind edges r then edge_values g e r.1
    else if is_kind vertices r then vertex_values g e r.1
    else r.1

-- an entry, which is given with its place in the directory from 0
abbrev pub dropped_record : Contents → ℕ × Record → Record
dropped_record g p = (p.1.0, dropped_values g (2 * p.0 + 1) p.1)

-- Each list with a used item keeps its used items, in order, and each index that names a used item becomes its rank; all else stays.
unfoldable pub dropped : Contents → Contents
dropped g = record { start = g.start; global = g.global; entries = map (dropped_record g) (enumerate_from 0 g.entries) }
