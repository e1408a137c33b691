-- Which edges and which vertices of a file's lists are used, and their places among those used.
use Rattle.std.specs.Prelude.{ℕ, zero, suc, ◌+◌, ◌*◌, ◌&&◌, ◌||◌, nat_le, Bool, not, if◌then◌else◌, ℤ, pos, List, [], ◌∷◌, length, flat_map, Some, None}
use Rattle.std.specs.List.{enumerate_from, list_any}
use Rattle.std.specs.Ordering.{int_eq}
use Rattle.iges_fields.specs.declared.value.Value.{Value}
use Rattle.iges_params.specs.Contents.{Contents}
use Rattle.iges_params.specs.Named.{named}
use Rattle.brep_lists.specs.Record.{type_number, LoopTuple, items_of}
use Rattle.brep_lists.specs.declared.entity_kind.EntityKind.{EntityKind}
use Rattle.brep_lists.specs.declared.entity_kind.EntityKind.TheVariants.{Loop as «loop», EdgeList as edges, VertexList as vertices}
use Rattle.brep_lists.specs.declared.edge_list.EdgeTuple.{EdgeTuple}
use Rattle.entry_references.specs.Refs.{Record}

-- the entry is of the type, in whatever form
abbrev pub is_kind : EntityKind → Record → Bool
is_kind kind r = int_eq r.0.kind (type_number kind)

-- what an entry describes as a loop, as a list of edges, and as a list of vertices
abbrev pub tuples_in : Record → List LoopTuple
tuples_in r = if is_kind «loop» r then items_of «loop» r.1 else []

abbrev pub edges_in : Record → List EdgeTuple
edges_in r = if is_kind edges r then items_of edges r.1 else []

abbrev pub vertices_in : Record → List (Value × Value × Value)
vertices_in r = if is_kind vertices r then items_of vertices r.1 else []

-- how many items the list has that a number names
abbrev pub edge_count : Contents → ℕ → ℕ
edge_count g e = elim (named g (pos e)) [ Some r ↦ length (edges_in r) | None ↦ 0 ]

abbrev pub vertex_count : Contents → ℕ → ℕ
vertex_count g v = elim (named g (pos v)) [ Some r ↦ length (vertices_in r) | None ↦ 0 ]

-- ---- items by their tests: item j counts from 1

-- The used ones of these items, of which the first is item k, in order.
abbrev pub used_from : {X : Type 0} → (ℕ → Bool) → ℕ → List X → List X
used_from used k [] = []
used_from used k (x ∷ xs) = if used k then x ∷ used_from used (k + 1) xs else used_from used (k + 1) xs

-- how many of n items, of which the first is item k, are used
abbrev pub count_from : (ℕ → Bool) → ℕ → ℕ → ℕ
count_from used k zero = 0
count_from used k (suc n) = if used k then suc (count_from used (k + 1) n) else count_from used (k + 1) n

-- The place of a used item among those used, from 1: how many of the items up to it are used.
abbrev pub rank : (ℕ → Bool) → ℕ → ℕ
rank used j = count_from used 1 j

-- an index that names a used item becomes its rank, and another stays
abbrev pub ranked : (ℕ → Bool) → ℤ → ℤ
ranked used (pos j) = if used j then pos (rank used j) else pos j
ranked used z = z

-- ---- which items are used

-- the tuples of all loops of the file
abbrev pub all_uses : Contents → List LoopTuple
all_uses g = flat_map tuples_in g.entries

-- the tuple names item j of the list e, as an edge or as a vertex
abbrev pub names_edge : ℕ → ℕ → LoopTuple → Bool
names_edge e j t = not t.is_vertex && (int_eq t.list (pos e) && int_eq t.index (pos j))

abbrev pub names_vertex : ℕ → ℕ → LoopTuple → Bool
names_vertex v j t = t.is_vertex && (int_eq t.list (pos v) && int_eq t.index (pos j))

-- j is the index of an item of n
abbrev pub is_item : ℕ → ℕ → Bool
is_item n j = nat_le 1 j && nat_le j n

-- An edge of a list is used where a tuple of some loop names it.
unfoldable pub is_used_edge : Contents → ℕ → ℕ → Bool
is_used_edge g e j = is_item (edge_count g e) j && list_any (names_edge e j) (all_uses g)

-- the used edges of an entry, which is given with its place in the directory from 0
abbrev pub used_edges_in : Contents → ℕ × Record → List EdgeTuple
used_edges_in g p = used_from (is_used_edge g (2 * p.0 + 1)) 1 (edges_in p.1)

-- those of all entries
abbrev pub used_edges : Contents → List EdgeTuple
used_edges g = flat_map (used_edges_in g) (enumerate_from 0 g.entries)

-- the edge starts or ends at vertex j of the list v
abbrev pub has_end : ℕ → ℕ → EdgeTuple → Bool
has_end v j t = (int_eq t.start_list (pos v) && int_eq t.start_index (pos j)) || (int_eq t.end_list (pos v) && int_eq t.end_index (pos j))

-- A vertex of a list is used where a tuple of some loop names it, or a used edge starts or ends there.
unfoldable pub is_used_vertex : Contents → ℕ → ℕ → Bool
is_used_vertex g v j = is_item (vertex_count g v) j && (list_any (names_vertex v j) (all_uses g) || list_any (has_end v j) (used_edges g))
