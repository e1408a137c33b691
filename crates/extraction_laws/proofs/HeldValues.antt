-- The values of a file whose unused items are dropped can be written where its own can.
use Rattle.std.specs.Prelude.{◌≡◌, ℕ, zero, suc, ◌+◌, ◌*◌, ◌≤◌, Bool, true, false, if◌then◌else◌, ℤ, pos, negsuc, int_le, List, [], ◌∷◌, ◌++◌, length, map}
use Rattle.std.specs.Prelude.{flat_map, take, drop}
use Rattle.std.specs.List.{AllByRecursion, list_all}
use Rattle.std.proofs.Common.{refl, arith}
use Rattle.std.proofs.lemmas.Bool.{and_parts, and_from, le-leb, leb-true}
use Rattle.std.proofs.lemmas.List.{length-map}
use Rattle.iges_fields.specs.declared.value.Value.{Value}
use Rattle.iges_fields.specs.declared.value.Value.TheVariants as value
use Rattle.iges_fields.specs.FreeText.{fits_64_bits}
use Rattle.iges_fields.specs.InLine.{is_value}
use Rattle.iges_base.proofs.Lists.{list_all-take, list_all-drop, list_all-both}
use Rattle.iges_params.specs.Contents.{Contents}
use Rattle.brep_lists.specs.DueValues.{DueValue, pointer, number, flag, at_least_one, count, coordinate}
use Rattle.brep_lists.specs.Record.{LoopTuple, tuple_due, curve_due, edge_due, vertex_due, due, items_of, int_of, natural, value_or_default, int_at, count_at}
use Rattle.brep_lists.specs.Record.{groups, edge_read, tuples_read}
use Rattle.brep_lists.specs.declared.entity_kind.EntityKind.TheVariants.{Loop as «loop», EdgeList as edges, VertexList as vertices}
use Rattle.brep_lists.specs.OwnValues.{own_count}
use Rattle.brep_lists.specs.declared.edge_list.EdgeTuple.{EdgeTuple}
use Rattle.brep_lists.proofs.Stride.{length_groups, vertex_read}
use Rattle.entry_references.specs.Refs.{Record}
use Rattle.solid_data.specs.Obligations.{entry_number}
use Rattle.solid_data.proofs.Members.{All-at, All-from, all_append, all_flat_map}
use Rattle.list_compact.specs.Used.{is_kind, used_from, count_from, rank, ranked, is_used_edge, is_used_vertex}
use Rattle.list_compact.specs.Dropped.{tuple_index, reindexed_tuple, reindexed_edge, with_indices, spelled, unless_none, kept_edges, kept_vertices, edge_values}
use Rattle.list_compact.specs.Dropped.{vertex_values, loop_values, dropped_values}
use Rattle.list_compact.proofs.Ranks.{used_few, from_used}

abbrev IsInteger : ℤ → Type 0
IsInteger z = fits_64_bits z ≡ true

abbrev AreValues : List Value → Type 0
AreValues vs = list_all is_value vs ≡ true

-- ---- ranks and counts

smaller : (m n : ℕ) → m ≤ n → IsInteger (pos n) → IsInteger (pos m)
smaller m n le h =
    let p = and_parts (int_le (negsuc 9223372036854775807) (pos n)) (int_le (pos n) (pos 9223372036854775807)) h in
    and_from (int_le (negsuc 9223372036854775807) (pos m)) (int_le (pos m) (pos 9223372036854775807)) refl
    (le-leb m 9223372036854775807 (omega (arith, le, leb-true n 9223372036854775807 p.1)))

count_few : (used : ℕ → Bool) (k n : ℕ) → count_from used k n ≤ n
count_few used k zero = omega arith
count_few used k (suc n) = by_test (used k) (count_few used (k + 1) n)
  where
    by_test : (b : Bool) → count_from used (k + 1) n ≤ n → (if b then suc (count_from used (k + 1) n) else count_from used (k + 1) n) ≤ suc n
    by_test true h = omega (arith, h)
    by_test false h = omega (arith, h)

ranked_fits : (used : ℕ → Bool) (z : ℤ) → IsInteger z → IsInteger (ranked used z)
ranked_fits used (pos j) h = by_test (used j)
  where
    by_test : (b : Bool) → IsInteger (if b then pos (rank used j) else pos j)
    by_test true = smaller (rank used j) j (count_few used 1 j) h
    by_test false = h
ranked_fits used (negsuc j) h = h

-- ---- what is read

value_read : (vs : List Value) (i : ℕ) → AreValues vs → is_value (value_or_default vs i) ≡ true
value_read [] i h = refl
value_read (v ∷ vs) zero h = (and_parts (is_value v) (list_all is_value vs) h).0
value_read (v ∷ vs) (suc i) h = value_read vs i (and_parts (is_value v) (list_all is_value vs) h).1

integer_in : (v : Value) → is_value v ≡ true → IsInteger (int_of v)
integer_in value.Default h = refl
integer_in (value.Int z) h = h
integer_in (value.Real w) h = refl
integer_in (value.Text t) h = refl

integer_at : (vs : List Value) (i : ℕ) → AreValues vs → IsInteger (int_at vs i)
integer_at vs i h = integer_in (value_or_default vs i) (value_read vs i h)

natural_fits : (z : ℤ) → IsInteger z → IsInteger (pos (natural z))
natural_fits (pos n) h = h
natural_fits (negsuc n) h = refl

-- ---- loops: only indices change

abbrev IndexFits : DueValue → Type 0
IndexFits (number z) = IsInteger z
IndexFits (pointer z) = Unit {0}
IndexFits (flag b) = Unit {0}
IndexFits (at_least_one n) = Unit {0}
IndexFits (count n) = Unit {0}
IndexFits (coordinate v) = Unit {0}

indices_held : (ds : List DueValue) (vs : List Value) → AllByRecursion IndexFits ds → AreValues vs → AreValues (with_indices ds vs)
indices_held [] vs f h = h
indices_held (d ∷ ds) [] f h = refl
indices_held (number z ∷ ds) (v ∷ vs) f h = and_from (is_value (value.Int z)) (list_all is_value (with_indices ds vs)) f.0
    (indices_held ds vs f.1 (and_parts (is_value v) (list_all is_value vs) h).1)
indices_held (pointer z ∷ ds) (v ∷ vs) f h = let p = and_parts (is_value v) (list_all is_value vs) h in and_from (is_value v)
    (list_all is_value (with_indices ds vs)) p.0 (indices_held ds vs f.1 p.1)
indices_held (flag b ∷ ds) (v ∷ vs) f h = let p = and_parts (is_value v) (list_all is_value vs) h in and_from (is_value v)
    (list_all is_value (with_indices ds vs)) p.0 (indices_held ds vs f.1 p.1)
indices_held (at_least_one n ∷ ds) (v ∷ vs) f h = let p = and_parts (is_value v) (list_all is_value vs) h in and_from (is_value v)
    (list_all is_value (with_indices ds vs)) p.0 (indices_held ds vs f.1 p.1)
indices_held (count n ∷ ds) (v ∷ vs) f h = let p = and_parts (is_value v) (list_all is_value vs) h in and_from (is_value v)
    (list_all is_value (with_indices ds vs)) p.0 (indices_held ds vs f.1 p.1)
indices_held (coordinate w ∷ ds) (v ∷ vs) f h = let p = and_parts (is_value v) (list_all is_value vs) h in and_from (is_value v)
    (list_all is_value (with_indices ds vs)) p.0 (indices_held ds vs f.1 p.1)

curves_fit : (cs : List (Bool × ℤ)) → AllByRecursion IndexFits (flat_map curve_due cs)
curves_fit [] = tt
curves_fit (c ∷ cs) = (tt, (tt, curves_fit cs))

abbrev HasIndex : LoopTuple → Type 0
HasIndex t = IsInteger t.index

tuples_fit : (ts : List LoopTuple) → AllByRecursion HasIndex ts → AllByRecursion IndexFits (flat_map tuple_due ts)
tuples_fit [] h = tt
tuples_fit (t ∷ ts) h = all_append IndexFits (tuple_due t) (flat_map tuple_due ts) (tt, (tt, (h.0, (tt, (tt, curves_fit t.curves))))) (tuples_fit ts h.1)

tuples_held : (n : ℕ) (vs : List Value) → AreValues vs → AllByRecursion HasIndex (tuples_read n vs)
tuples_held zero vs h = tt
tuples_held (suc n) vs h = (integer_at vs 2 h, tuples_held n (drop (5 + 2 * count_at vs 4) vs) (list_all-drop is_value (5 + 2 * count_at vs 4) vs h))

module _ (g : Contents) where
  index_fits : (b : Bool) (z j : ℤ) → IsInteger j → IsInteger (tuple_index g b z j)
  index_fits true z j h = ranked_fits (is_used_vertex g (entry_number z)) j h
  index_fits false z j h = ranked_fits (is_used_edge g (entry_number z)) j h

  reindexed_fit : (ts : List LoopTuple) → AllByRecursion HasIndex ts → AllByRecursion HasIndex (map (reindexed_tuple g) ts)
  reindexed_fit [] h = tt
  reindexed_fit (t ∷ ts) h = (index_fits t.is_vertex t.list t.index h.0, reindexed_fit ts h.1)

  loop_held : (vs : List Value) → AreValues vs → AreValues (loop_values g vs)
  loop_held vs h = indices_held (due «loop» (map (reindexed_tuple g) (items_of «loop» vs))) vs (
    tt,
    tuples_fit (map (reindexed_tuple g) (items_of «loop» vs))
        (reindexed_fit (items_of «loop» vs) (tuples_held (count_at vs 0) (drop 1 vs) (list_all-drop is_value 1 vs h))),
  ) h

-- ---- lists: other items in place of the own values

abbrev DueFits : DueValue → Type 0
DueFits (number z) = IsInteger z
DueFits (pointer z) = IsInteger z
DueFits (flag b) = Unit {0}
DueFits (at_least_one n) = IsInteger (pos n)
DueFits (count n) = IsInteger (pos n)
DueFits (coordinate v) = is_value v ≡ true

spelled_fits : (d : DueValue) → DueFits d → is_value (spelled d) ≡ true
spelled_fits (number z) h = h
spelled_fits (pointer z) h = h
spelled_fits (flag true) h = refl
spelled_fits (flag false) h = refl
spelled_fits (at_least_one n) h = h
spelled_fits (count n) h = h
spelled_fits (coordinate v) h = h

spelled_held : (ds : List DueValue) → AllByRecursion DueFits ds → AreValues (map spelled ds)
spelled_held [] h = refl
spelled_held (d ∷ ds) h = and_from (is_value (spelled d)) (list_all is_value (map spelled ds)) (spelled_fits d h.0) (spelled_held ds h.1)

-- the items before the rest of the values, or the values themselves
list_held : {X : Type 0} (xs : List X) (ds : List DueValue) (n : ℕ) (vs : List Value) → AllByRecursion DueFits ds → AreValues vs
    → AreValues (unless_none xs (map spelled ds ++ drop n vs) vs)
list_held [] ds n vs f h = h
list_held (x ∷ xs) ds n vs f h = list_all-both is_value (map spelled ds) (drop n vs) (spelled_held ds f) (list_all-drop is_value n vs h)

-- what holds of items holds of the used ones
used_held : {X : Type 0} (P : X → Type 0) (used : ℕ → Bool) (k : ℕ) (xs : List X) → AllByRecursion P xs → AllByRecursion P (used_from used k xs)
used_held P used k xs all = All-from P (used_from used k xs) (λ x m. All-at P xs all x (from_used used k xs x m))

abbrev EdgeFits : EdgeTuple → Type 0
EdgeFits e = AllByRecursion DueFits (edge_due e)

abbrev VertexFits : Value × Value × Value → Type 0
VertexFits v = AllByRecursion DueFits (vertex_due v)

edge_fits : (vs : List Value) → AreValues vs → EdgeFits (edge_read vs)
edge_fits vs h = (integer_at vs 0 h, (integer_at vs 1 h, (integer_at vs 2 h, (integer_at vs 3 h, (integer_at vs 4 h, tt)))))

edges_held : (n : ℕ) (vs : List Value) → AreValues vs → AllByRecursion EdgeFits (map edge_read (groups 5 n vs))
edges_held zero vs h = tt
edges_held (suc n) vs h = (edge_fits (take 5 vs) (list_all-take is_value 5 vs h), edges_held n (drop 5 vs) (list_all-drop is_value 5 vs h))

vertices_held : (n : ℕ) (vs : List Value) → AreValues vs → AllByRecursion VertexFits (map vertex_read (groups 3 n vs))
vertices_held zero vs h = tt
vertices_held (suc n) vs h =
    let k : AreValues (take 3 vs) = list_all-take is_value 3 vs h in
    ((value_read (take 3 vs) 0 k, (value_read (take 3 vs) 1 k, (value_read (take 3 vs) 2 k, tt))), vertices_held n (drop 3 vs) (list_all-drop is_value 3 vs h))

-- a count that is no more than the one that stood there
count_fits : (vs : List Value) (n : ℕ) → n ≤ count_at vs 0 → AreValues vs → IsInteger (pos n)
count_fits vs n le h = smaller n (count_at vs 0) le (natural_fits (int_at vs 0) (integer_at vs 0 h))

module _ (g : Contents) where
  ends_fit : (es : List EdgeTuple) → AllByRecursion EdgeFits es → AllByRecursion EdgeFits (map (reindexed_edge g) es)
  ends_fit [] h = tt
  ends_fit (e ∷ es) h =
      let k = h.0 in (
        (
          k.0,
          (
            k.1.0,
            (
              ranked_fits (is_used_vertex g (entry_number e.start_list)) e.start_index k.1.1.0,
              (k.1.1.1.0, (ranked_fits (is_used_vertex g (entry_number e.end_list)) e.end_index k.1.1.1.1.0, tt)),
            ),
          ),
        ),
        ends_fit es h.1,
      )

  kept_edges_fit : (e : ℕ) (vs : List Value) → AreValues vs → AllByRecursion EdgeFits (kept_edges g e vs)
  kept_edges_fit e vs h = ends_fit (used_from (is_used_edge g e) 1 (items_of edges vs))
      (used_held EdgeFits (is_used_edge g e) 1 (items_of edges vs) (edges_held (count_at vs 0) (drop 1 vs) (list_all-drop is_value 1 vs h)))

  kept_vertices_fit : (v : ℕ) (vs : List Value) → AreValues vs → AllByRecursion VertexFits (kept_vertices g v vs)
  kept_vertices_fit v vs h = used_held VertexFits (is_used_vertex g v) 1 (items_of vertices vs)
      (vertices_held (count_at vs 0) (drop 1 vs) (list_all-drop is_value 1 vs h))

  edge_values_held : (e : ℕ) (vs : List Value) → AreValues vs → AreValues (edge_values g e vs)
  edge_values_held e vs h =
      let few : length (kept_edges g e vs) ≤ count_at vs 0 =
      omega (
        arith,
        length-map (used_from (is_used_edge g e) 1 (items_of edges vs)) (reindexed_edge g),
        used_few (is_used_edge g e) 1 (items_of edges vs),
        length-map (groups 5 (count_at vs 0) (drop 1 vs)) edge_read,
        length_groups 5 (count_at vs 0) (drop 1 vs),
      ) in
      list_held (kept_edges g e vs) (due edges (kept_edges g e vs)) (own_count edges vs) vs (
        count_fits vs (length (kept_edges g e vs)) few h,
        all_flat_map DueFits edge_due (kept_edges g e vs)
            (λ x m. All-at EdgeFits (kept_edges g e vs) (kept_edges_fit e vs h) x m),
      ) h

  vertex_values_held : (v : ℕ) (vs : List Value) → AreValues vs → AreValues (vertex_values g v vs)
  vertex_values_held v vs h =
      let few : length (kept_vertices g v vs) ≤ count_at vs 0 =
      omega (
        arith,
        used_few (is_used_vertex g v) 1 (items_of vertices vs),
        length-map (groups 3 (count_at vs 0) (drop 1 vs)) vertex_read,
        length_groups 3
            (count_at vs 0) (drop 1 vs),
      ) in
      list_held (kept_vertices g v vs) (due vertices (kept_vertices g v vs)) (own_count vertices vs) vs (
        count_fits vs (length (kept_vertices g v vs)) few h,
        all_flat_map DueFits vertex_due (kept_vertices g v vs)
            (λ x m. All-at VertexFits (kept_vertices g v vs) (kept_vertices_fit v vs h) x m),
      ) h

  pub dropped_held : (e : ℕ) (r : Record) → AreValues r.1 → AreValues (dropped_values g e r)
  dropped_held e r h = by_kinds (is_kind «loop» r) (is_kind edges r) (is_kind vertices r)
    where
      by_kinds : (l d v : Bool) → AreValues (if l then loop_values g r.1 else if d then edge_values g e r.1 else if v then vertex_values g e r.1 else r.1)
      by_kinds true d v = loop_held g r.1 h
      by_kinds false true v = edge_values_held e r.1 h
      by_kinds false false true = vertex_values_held e r.1 h
      by_kinds false false false = h
