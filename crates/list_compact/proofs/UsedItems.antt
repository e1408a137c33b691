-- Items that loops and used edges name are used, and where they stand once the others are dropped.
use Rattle.std.specs.Prelude.{◌≡◌, ℕ, ◌+◌, ◌-◌, ◌*◌, ◌/◌, ◌≤◌, ◌&&◌, ◌||◌, nat_le, Bool, true, false, not, ℤ, pos, negsuc, [], length, Option, Some, None}
use Rattle.std.specs.Prelude.{IsSome, IsSomeAnd, option_map, slice_get}
use Rattle.std.specs.List.{enumerate_from, list_any}
use Rattle.std.specs.Ordering.{int_eq}
use Rattle.std.proofs.Common.{refl, sym, ◌∙◌, ap, subst, arith}
use Rattle.std.proofs.Math.Nat.{div-add-mod}
use Rattle.std.proofs.lemmas.Bool.{and_from, or_left, cond-true, le-leb}
use Rattle.std.proofs.lemmas.Bool.Decides.{Decides-int_eq}
use Rattle.std.proofs.lemmas.List.{length-map}
use Rattle.std.proofs.lemmas.Option.{none-some, slice_get-map}
use Rattle.iges_params.specs.Contents.{Contents}
use Rattle.iges_params.specs.Named.{named, record_values, values_of}
use Rattle.brep_lists.specs.Record.{type_number, LoopTuple, items_of, IsRecordOf, HasForm}
use Rattle.brep_lists.specs.declared.entity_kind.EntityKind.{EntityKind}
use Rattle.brep_lists.specs.declared.entity_kind.EntityKind.TheVariants.{Loop as «loop», EdgeList as edges, VertexList as vertices}
use Rattle.brep_lists.specs.declared.edge_list.EdgeTuple.{EdgeTuple}
use Rattle.solid_data.specs.Obligations.{entry_number}
use Rattle.solid_data.proofs.Members.{Has, has_get, get_some, has_flat_map}
use Rattle.brep_walk.specs.Places.{told, tuples, edge_at, Names, NamesKind, HasRecordOf, NamesGeometry, IsIndex}
use Rattle.entry_references.specs.Refs.{Record}
use Rattle.entry_references.proofs.NamedRecords.{named_place}
use Rattle.list_compact.specs.Used.{is_kind, tuples_in, edges_in, vertices_in, edge_count, vertex_count, used_from, rank, all_uses, names_edge, names_vertex}
use Rattle.list_compact.specs.Used.{is_item, is_used_edge, used_edges_in, used_edges, has_end, is_used_vertex}
use Rattle.list_compact.specs.Dropped.{edge_index, vertex_index, reindexed_edge, kept_edges, kept_vertices, dropped_values, dropped}
use Rattle.list_compact.proofs.Members.{any_passes}
use Rattle.list_compact.proofs.Ranks.{item_ranked, rank_low, rank_within}
use Rattle.list_compact.proofs.Rewritten.{IsRewritten, edges_rewritten, vertices_rewritten}
use Rattle.list_compact.proofs.DroppedEntries.{get_enumerated, as_dropped, names_dropped, values_as, edges_dropped, vertices_dropped, kind_test}

-- ---- entries

-- a number names a record of a kind
pub record At (g : Contents) (kind : EntityKind) (z : ℤ) : Type 0 where
  pub entry : Record
  pub at : named g z ≡ Some entry
  pub number : z ≡ pos (entry_number z)
  pub typed : entry.0.kind ≡ type_number kind
  pub is : IsRecordOf kind entry.1

pub at_from : (g : Contents) (kind : EntityKind) (z : ℤ) → NamesKind kind g z → HasRecordOf kind g z → At g kind z
at_from g kind (negsuc m) k h = absurd k
at_from g kind (pos m) k h = by_option (named g (pos m)) refl k h
  where
    by_option : (o : Option Record) → named g (pos m) ≡ o → IsSomeAnd o (λ e. (e.0.kind ≡ type_number kind) × HasForm kind e.0.form)
        → IsSomeAnd o (λ e. IsRecordOf kind e.1) → At g kind (pos m)
    by_option None e a b = absurd a
    by_option (Some r) e a b = record { entry = r; at = e; number = refl; typed = a.0; is = b }

module _ (g : Contents) where
  abbrev d : Contents
  d = dropped g

  pub names_still : (z : ℤ) → Names g z → Names d z
  names_still z h = subst IsSome (sym (names_dropped g z)) (by_option (named g z) h)
    where
      by_option : (o : Option Record) → IsSome o → IsSome (option_map (as_dropped g (entry_number z)) o)
      by_option None k = k
      by_option (Some r) k = refl

  pub kind_still : (kind : EntityKind) (z : ℤ) → NamesKind kind g z → NamesKind kind d z
  kind_still kind z h = subst (λ o. IsSomeAnd o (λ e. (e.0.kind ≡ type_number kind) × HasForm kind e.0.form)) (sym (names_dropped g z))
      (by_option (named g z) h)
    where
      by_option : (o : Option Record) → IsSomeAnd o (λ e. (e.0.kind ≡ type_number kind) × HasForm kind e.0.form)
          → IsSomeAnd (option_map (as_dropped g (entry_number z)) o) (λ e. (e.0.kind ≡ type_number kind) × HasForm kind e.0.form)
      by_option None k = k
      by_option (Some r) k = k

  pub geometry_still : (z : ℤ) → NamesGeometry g z → NamesGeometry d z
  geometry_still z h = subst (λ o. IsSomeAnd o (λ e. (kind : EntityKind) → ¬ (e.0.kind ≡ type_number kind))) (sym (names_dropped g z)) (by_option (named g z) h)
    where
      by_option : (o : Option Record) → IsSomeAnd o (λ e. (kind : EntityKind) → ¬ (e.0.kind ≡ type_number kind))
          → IsSomeAnd (option_map (as_dropped g (entry_number z)) o) (λ e. (kind : EntityKind) → ¬ (e.0.kind ≡ type_number kind))
      by_option None k = k
      by_option (Some r) k = k

  -- new values that are a record of the kind
  pub record_still : (kind : EntityKind) (z : ℤ) (r : Record) → named g z ≡ Some r → IsRecordOf kind (dropped_values g (entry_number z) r)
      → HasRecordOf kind d z
  record_still kind z r e is =
      subst (λ o. IsSomeAnd o (λ e. IsRecordOf kind e.1)) (sym (names_dropped g z ∙ ap (option_map (as_dropped g (entry_number z))) e)) is

  -- ---- what is used

  entry_there : (z : ℤ) (r : Record) → named g z ≡ Some r → Has g.entries r
  entry_there (pos m) r e = has_get g.entries (m / 2) r (named_place g m r e).1
  entry_there (negsuc m) r e = absurd (none-some r e)

  pub use_there : (l : ℤ) (t : LoopTuple) → At g «loop» l → Has (tuples g l) t → Has (all_uses g) t
  use_there l t a h =
      let told_by : tuples g l ≡ tuples_in a.entry = ap (λ o. items_of «loop» (record_values o)) a.at
      ∙ sym (cond-true (is_kind «loop» a.entry) (items_of «loop» a.entry.1) [] (kind_test «loop» a.entry a.typed)) in
      has_flat_map tuples_in g.entries a.entry t (entry_there l a.entry a.at) (subst (λ ts. Has ts t) told_by h)

  item_is : (n k : ℕ) → 1 ≤ k → k ≤ n → is_item n k ≡ true
  item_is n k low high = and_from (nat_le 1 k) (nat_le k n) (le-leb 1 k low) (le-leb k n high)

  same_int : (y z : ℤ) → y ≡ z → int_eq y z ≡ true
  same_int y z e = (Decides-int_eq y z).1 e

  edges_counted : (z : ℤ) (a : At g edges z) → edge_count g (entry_number z) ≡ length (items_of edges a.entry.1)
  edges_counted z a =
      ap (λ o. elim o as (λ _. ℕ) [ Some r ↦ length (edges_in r) | None ↦ 0 ]) (ap (named g) (sym a.number) ∙ a.at)
      ∙ ap length (cond-true (is_kind edges a.entry) (items_of edges a.entry.1) [] (kind_test edges a.entry a.typed))

  vertices_counted : (z : ℤ) (a : At g vertices z) → vertex_count g (entry_number z) ≡ length (items_of vertices a.entry.1)
  vertices_counted z a =
      ap (λ o. elim o as (λ _. ℕ) [ Some r ↦ length (vertices_in r) | None ↦ 0 ]) (ap (named g) (sym a.number) ∙ a.at)
      ∙ ap length (cond-true (is_kind vertices a.entry) (items_of vertices a.entry.1) [] (kind_test vertices a.entry a.typed))

  edge_used : (z : ℤ) (k : ℕ) (t : LoopTuple) (a : At g edges z) → Has (all_uses g) t → t.is_vertex ≡ false → t.«list» ≡ z → t.index ≡ pos k → 1 ≤ k
      → k ≤ length (items_of edges a.entry.1) → is_used_edge g (entry_number z) k ≡ true
  unfolding is_used_edge
  edge_used z k t a h v l i low high =
      and_from (is_item (edge_count g (entry_number z)) k) (list_any (names_edge (entry_number z) k) (all_uses g))
      (item_is (edge_count g (entry_number z)) k low (omega (arith, high, edges_counted z a)))
      (any_passes (names_edge (entry_number z) k) (all_uses g) t h
      (and_from (not t.is_vertex) (int_eq t.list (pos (entry_number z)) && int_eq t.index (pos k)) (ap not v)
      (and_from (int_eq t.list (pos (entry_number z))) (int_eq t.index (pos k)) (same_int t.list (pos (entry_number z)) (l ∙ a.number))
      (same_int t.index (pos k) i))))

  vertex_used : (z : ℤ) (k : ℕ) (t : LoopTuple) (a : At g vertices z) → Has (all_uses g) t → t.is_vertex ≡ true → t.«list» ≡ z → t.index ≡ pos k → 1 ≤ k
      → k ≤ length (items_of vertices a.entry.1) → is_used_vertex g (entry_number z) k ≡ true
  unfolding is_used_vertex
  vertex_used z k t a h v l i low high =
      and_from (is_item (vertex_count g (entry_number z)) k)
      (list_any (names_vertex (entry_number z) k) (all_uses g) || list_any (has_end (entry_number z) k) (used_edges g))
      (item_is (vertex_count g (entry_number z)) k low (omega (arith, high, vertices_counted z a)))
      (or_left (list_any (names_vertex (entry_number z) k) (all_uses g)) (list_any (has_end (entry_number z) k) (used_edges g))
      (any_passes (names_vertex (entry_number z) k) (all_uses g) t h
      (and_from t.is_vertex (int_eq t.list (pos (entry_number z)) && int_eq t.index (pos k)) v
      (and_from (int_eq t.list (pos (entry_number z))) (int_eq t.index (pos k)) (same_int t.list (pos (entry_number z)) (l ∙ a.number))
      (same_int t.index (pos k) i)))))

  end_used : (z : ℤ) (k : ℕ) (x : EdgeTuple) (a : At g vertices z) → Has (used_edges g) x → has_end (entry_number z) k x ≡ true → 1 ≤ k
      → k ≤ length (items_of vertices a.entry.1) → is_used_vertex g (entry_number z) k ≡ true
  unfolding is_used_vertex
  end_used z k x a h e low high =
      and_from (is_item (vertex_count g (entry_number z)) k)
      (list_any (names_vertex (entry_number z) k) (all_uses g) || list_any (has_end (entry_number z) k) (used_edges g))
      (item_is (vertex_count g (entry_number z)) k low (omega (arith, high, vertices_counted z a)))
      (or_second (list_any (names_vertex (entry_number z) k) (all_uses g)) (list_any (has_end (entry_number z) k) (used_edges g))
      (any_passes (has_end (entry_number z) k) (used_edges g) x h e))
    where
      or_second : (p q : Bool) → q ≡ true → (p || q) ≡ true
      or_second true q e = refl
      or_second false q e = e

  start_has : (z : ℤ) (k : ℕ) (x : EdgeTuple) → x.start_list ≡ pos (entry_number z) → x.start_index ≡ pos k → has_end (entry_number z) k x ≡ true
  start_has z k x l i =
      or_left (int_eq x.start_list (pos (entry_number z)) && int_eq x.start_index (pos k))
      (int_eq x.end_list (pos (entry_number z)) && int_eq x.end_index (pos k))
      (and_from (int_eq x.start_list (pos (entry_number z))) (int_eq x.start_index (pos k)) (same_int x.start_list (pos (entry_number z)) l)
      (same_int x.start_index (pos k) i))

  end_has : (z : ℤ) (k : ℕ) (x : EdgeTuple) → x.end_list ≡ pos (entry_number z) → x.end_index ≡ pos k → has_end (entry_number z) k x ≡ true
  end_has z k x l i = or_second (int_eq x.start_list (pos (entry_number z)) && int_eq x.start_index (pos k))
      (int_eq x.end_list (pos (entry_number z)) && int_eq x.end_index (pos k))
      (and_from (int_eq x.end_list (pos (entry_number z))) (int_eq x.end_index (pos k)) (same_int x.end_list (pos (entry_number z)) l)
      (same_int x.end_index (pos k) i))
    where
      or_second : (p q : Bool) → q ≡ true → (p || q) ≡ true
      or_second true q e = refl
      or_second false q e = e

  -- ---- where a used item stands

  -- an edge that is used, and where it stands now
  pub record EdgeStill (z j : ℤ) : Type 0 where
    pub used : is_used_edge g (entry_number z) (entry_number j) ≡ true
    pub low : 1 ≤ entry_number j
    pub index_is : edge_index g z j ≡ pos (rank (is_used_edge g (entry_number z)) (entry_number j))
    pub edge : EdgeTuple
    pub before : edge_at g z (entry_number j) ≡ Some edge
    pub after : edge_at d z (entry_number (edge_index g z j)) ≡ Some (reindexed_edge g edge)
    pub layout : HasRecordOf edges d z
    pub index : IsIndex (edge_index g z j) (length (told edges d z))
    pub among : Has (used_edges g) edge

  used_among : (z : ℤ) (k : ℕ) (x : EdgeTuple) (a : At g edges z) → 1 ≤ k → is_used_edge g (entry_number z) k ≡ true
      → slice_get (items_of edges a.entry.1) (k - 1) ≡ Some x → Has (used_edges g) x
  used_among z k x a low used at =
      let e : ℕ = entry_number z in
      let there = named_place g (entry_number z) a.entry (ap (named g) (sym a.number) ∙ a.at) in
      let number : 2 * (entry_number z / 2) + 1 ≡ entry_number z = omega (arith, there.0, div-add-mod (entry_number z) 2) in
      let none : 0 + entry_number z / 2 ≡ entry_number z / 2 = omega arith in
      let listed : Has (enumerate_from 0 g.entries) (entry_number z / 2, a.entry) =
      has_get (enumerate_from 0 g.entries) (entry_number z / 2) (entry_number z / 2, a.entry)
      (get_enumerated 0 g.entries (entry_number z / 2)
      ∙ (ap (option_map (λ (r : Record). (0 + entry_number z / 2, r))) there.1 ∙ ap (λ m. Some (m, a.entry)) none)) in
      let kept : Has (used_from (is_used_edge g (entry_number z)) 1 (items_of edges a.entry.1)) x =
      has_get (used_from (is_used_edge g (entry_number z)) 1 (items_of edges a.entry.1)) (rank (is_used_edge g (entry_number z)) k - 1) x
      (item_ranked (is_used_edge g (entry_number z)) k (items_of edges a.entry.1) x low used at) in
      has_flat_map (used_edges_in g) (enumerate_from 0 g.entries) (entry_number z / 2, a.entry) x listed
      (subst (λ m. Has (used_from (is_used_edge g m) 1 (edges_in a.entry)) x) (sym number)
      (subst (λ us. Has (used_from (is_used_edge g (entry_number z)) 1 us) x)
      (sym (cond-true (is_kind edges a.entry) (items_of edges a.entry.1) [] (kind_test edges a.entry a.typed))) kept))

  pub edge_still : (z j : ℤ) (t : LoopTuple) (a : At g edges z) → Has (all_uses g) t → t.is_vertex ≡ false → t.«list» ≡ z → t.index ≡ j
      → IsIndex j (length (told edges g z)) → EdgeStill z j
  edge_still z j t a h v l i (k, is, low, high) =
      let used : is_used_edge g (entry_number z) k ≡ true =
      edge_used z k t a h v l (i ∙ is) low (subst (λ o. k ≤ length (items_of edges (record_values o))) a.at high) in
      let x = get_some (items_of edges a.entry.1) (k - 1) (omega (arith, low, subst (λ o. k ≤ length (items_of edges (record_values o))) a.at high)) in
      let u : ℕ → Bool = is_used_edge g (entry_number z) in
      let kept_long : length (kept_edges g (entry_number z) a.entry.1) ≡ length (used_from (is_used_edge g (entry_number z)) 1 (items_of edges a.entry.1)) =
      length-map (used_from (is_used_edge g (entry_number z)) 1 (items_of edges a.entry.1)) (reindexed_edge g) in
      let within : rank (is_used_edge g (entry_number z)) k ≤ length (used_from (is_used_edge g (entry_number z)) 1 (items_of edges a.entry.1)) =
      rank_within (is_used_edge g (entry_number z)) k (items_of edges a.entry.1) x.0 low used x.1 in
      let first : 1 ≤ rank (is_used_edge g (entry_number z)) k = rank_low (is_used_edge g (entry_number z)) k low used in
      let w : IsRewritten edges (kept_edges g (entry_number z) a.entry.1) a.entry.1 _ =
      edges_rewritten g (entry_number z) a.entry.1 a.is (omega (arith, kept_long, within, first)) in
      let values : values_of d z ≡ _ = values_as g z a.entry a.at ∙ edges_dropped g (entry_number z) a.entry a.typed in
      let items : told edges d z ≡ kept_edges g (entry_number z) a.entry.1 = ap (items_of edges) values ∙ w.items_are in
      let index_is : edge_index g z (pos k) ≡ pos (rank (is_used_edge g (entry_number z)) k) =
      cond-true (is_used_edge g (entry_number z) k) (pos (rank (is_used_edge g (entry_number z)) k)) (pos k) used in
      let after : slice_get (told edges d z) (rank (is_used_edge g (entry_number z)) k - 1) ≡ Some (reindexed_edge g x.0) =
      ap (λ es. slice_get es (rank (is_used_edge g (entry_number z)) k - 1)) items
      ∙ (slice_get-map (reindexed_edge g) (used_from (is_used_edge g (entry_number z)) 1 (items_of edges a.entry.1))
      (rank (is_used_edge g (entry_number z)) k - 1)
      ∙ ap (option_map (reindexed_edge g)) (item_ranked (is_used_edge g (entry_number z)) k (items_of edges a.entry.1) x.0 low used x.1)) in
      subst (EdgeStill z) (sym is) (record {
        used = used;
        low = low;
        index_is = index_is;
        edge = x.0;
        before = ap (λ o. slice_get (items_of edges (record_values o)) (k - 1)) a.at ∙ x.1;
        after = ap (λ i. edge_at d z (entry_number i)) index_is ∙ after;
        layout = record_still edges z a.entry a.at (subst (IsRecordOf edges) (sym (edges_dropped g (entry_number z) a.entry a.typed)) w.is);
        index = (rank (is_used_edge g (entry_number z)) k, index_is, first, omega (arith, ap length items, kept_long, within));
        among = used_among z k x.0 a low used x.1;
      })

  -- a vertex that is used
  pub record VertexStill (z j : ℤ) : Type 0 where
    pub used : is_used_vertex g (entry_number z) (entry_number j) ≡ true
    pub low : 1 ≤ entry_number j
    pub index_is : vertex_index g z j ≡ pos (rank (is_used_vertex g (entry_number z)) (entry_number j))
    pub layout : HasRecordOf vertices d z
    pub index : IsIndex (vertex_index g z j) (length (told vertices d z))

  used_still : (z : ℤ) (k : ℕ) (a : At g vertices z) → is_used_vertex g (entry_number z) k ≡ true → 1 ≤ k → k ≤ length (items_of vertices a.entry.1)
      → VertexStill z (pos k)
  used_still z k a used low high =
      let x = get_some (items_of vertices a.entry.1) (k - 1) (omega (arith, low, high)) in
      let within : rank (is_used_vertex g (entry_number z)) k ≤ length (kept_vertices g (entry_number z) a.entry.1) =
      rank_within (is_used_vertex g (entry_number z)) k (items_of vertices a.entry.1) x.0 low used x.1 in
      let first : 1 ≤ rank (is_used_vertex g (entry_number z)) k = rank_low (is_used_vertex g (entry_number z)) k low used in
      let w : IsRewritten vertices (kept_vertices g (entry_number z) a.entry.1) a.entry.1 _ =
      vertices_rewritten g (entry_number z) a.entry.1 a.is (omega (arith, within, first)) in
      let items : told vertices d z ≡ kept_vertices g (entry_number z) a.entry.1 =
      ap (items_of vertices) (values_as g z a.entry a.at ∙ vertices_dropped g (entry_number z) a.entry a.typed) ∙ w.items_are in
      let index_is : vertex_index g z (pos k) ≡ pos (rank (is_used_vertex g (entry_number z)) k) =
      cond-true (is_used_vertex g (entry_number z) k) (pos (rank (is_used_vertex g (entry_number z)) k)) (pos k) used in
      record {
        used = used;
        low = low;
        index_is = index_is;
        layout = record_still vertices z a.entry a.at (subst (IsRecordOf vertices) (sym (vertices_dropped g (entry_number z) a.entry a.typed)) w.is);
        index = (rank (is_used_vertex g (entry_number z)) k, index_is, first, omega (arith, ap length items, within));
      }

  pub vertex_still : (z j : ℤ) (t : LoopTuple) (a : At g vertices z) → Has (all_uses g) t → t.is_vertex ≡ true → t.«list» ≡ z → t.index ≡ j
      → IsIndex j (length (told vertices g z)) → VertexStill z j
  vertex_still z j t a h v l i (k, is, low, high) =
      let few : k ≤ length (items_of vertices a.entry.1) = subst (λ o. k ≤ length (items_of vertices (record_values o))) a.at high in
      subst (VertexStill z) (sym is) (used_still z k a (vertex_used z k t a h v l (i ∙ is) low few) low few)

  pub start_still : (x : EdgeTuple) (a : At g vertices x.start_list) → Has (used_edges g) x → IsIndex x.start_index (length (told vertices g x.start_list))
      → VertexStill x.start_list x.start_index
  start_still x a h (k, is, low, high) =
      let few : k ≤ length (items_of vertices a.entry.1) = subst (λ o. k ≤ length (items_of vertices (record_values o))) a.at high in
      subst (VertexStill x.start_list) (sym is)
      (used_still x.start_list k a (end_used x.start_list k x a h (start_has x.start_list k x a.number is) low few) low few)

  pub end_still : (x : EdgeTuple) (a : At g vertices x.end_list) → Has (used_edges g) x → IsIndex x.end_index (length (told vertices g x.end_list))
      → VertexStill x.end_list x.end_index
  end_still x a h (k, is, low, high) =
      let few : k ≤ length (items_of vertices a.entry.1) = subst (λ o. k ≤ length (items_of vertices (record_values o))) a.at high in
      subst (VertexStill x.end_list) (sym is) (used_still x.end_list k a (end_used x.end_list k x a h (end_has x.end_list k x a.number is) low few) low few)
