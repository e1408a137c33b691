-- Where each item is used, nothing is dropped.
use Rattle.std.specs.Prelude.{◌≡◌, ℕ, zero, suc, ◌+◌, ◌-◌, ◌*◌, ◌<◌, ◌≤◌, Bool, true, false, if◌then◌else◌, ℤ, pos, negsuc, List, [], ◌∷◌, ◌++◌, length, map}
use Rattle.std.specs.Prelude.{drop, Some, slice_get}
use Rattle.std.specs.List.{enumerate_from}
use Rattle.std.proofs.Common.{refl, sym, ◌∙◌, ap, subst, arith}
use Rattle.std.proofs.lemmas.Bool.{cond-true}
use Rattle.std.proofs.lemmas.List.{length-map}
use Rattle.std.proofs.lemmas.Option.{slice_get_within}
use Rattle.iges_fields.specs.declared.value.Value.{Value}
use Rattle.iges_params.specs.Contents.{Contents}
use Rattle.brep_lists.specs.DueValues.{DueValue, pointer, number, flag, at_least_one, count, coordinate, MeetsAll}
use Rattle.brep_lists.specs.Record.{LoopTuple, due, items_of, IsRecordOf}
use Rattle.brep_lists.specs.declared.edge_list.EdgeTuple.{EdgeTuple}
use Rattle.brep_lists.specs.declared.entity_kind.EntityKind.TheVariants.{Loop as «loop», EdgeList as edges, VertexList as vertices}
use Rattle.solid_data.specs.Obligations.{entry_number}
use Rattle.solid_data.proofs.Members.{get_some}
use Rattle.entry_references.specs.Refs.{Record}
use Rattle.solid_extract.specs.Extracted.{IsExtracted, IsExtractedAs}
use Rattle.solid_extract.proofs.Again.{extracted_again}
use Rattle.solid_extract.proofs.Copies.{all_at}
use Rattle.list_compact.specs.Used.{is_kind, edges_in, vertices_in, used_from, count_from, rank, ranked, is_used_edge, is_used_vertex}
use Rattle.list_compact.specs.Dropped.{edge_index, vertex_index, tuple_index, reindexed_tuple, reindexed_edge, with_indices, spelled, with_items, unless_none}
use Rattle.list_compact.specs.Dropped.{kept_edges, kept_vertices, loop_values, edge_values, vertex_values, dropped_values, dropped_record, dropped}
use Rattle.list_compact.specs.Marking.{AreMarks, AreAllMarked, AreRecords, Covers, HasPlace, IsOfItsKind, ranks_of, sizes, edge_sizes, vertex_sizes}
use Rattle.list_compact.proofs.DroppedEntries.{kind_is}
use Rattle.list_compact.proofs.RankSteps.{ranks_long, marks_of, edges_covered, vertices_covered}
use Rattle.list_compact.proofs.RowSizes.{row_size}
use Rattle.list_compact.proofs.Spelled.{IsFixed, edges_fixed, vertices_fixed}

-- ---- ranks

count_all : (u : ℕ → Bool) (k n : ℕ) → ((i : ℕ) → i < n → u (k + i) ≡ true) → count_from u k n ≡ n
count_all u k zero h = refl
count_all u k (suc n) h =
    let here : k + 0 ≡ k = omega arith in
    cond-true (u k) (suc (count_from u (k + 1) n)) (count_from u (k + 1) n) (ap u (sym here) ∙ h 0 (omega arith))
    ∙ ap suc (count_all u (k + 1) n (λ i lt. let on : k + 1 + i ≡ k + suc i = omega arith in ap u on ∙ h (suc i) (omega (arith, lt))))

-- below a used item all are used
abbrev IsWhole : (ℕ → Bool) → Type 0
IsWhole u = (j : ℕ) → u j ≡ true → (i : ℕ) → 1 ≤ i → i ≤ j → u i ≡ true

index_stays : (u : ℕ → Bool) (z : ℤ) → IsWhole u → ranked u z ≡ z
index_stays u (negsuc n) h = refl
index_stays u (pos j) h = by_test (u j) refl
  where
    by_test : (b : Bool) → u j ≡ b → (if b then pos (rank u j) else pos j) ≡ pos j
    by_test false t = refl
    by_test true t = ap (λ m. pos m) (count_all u 1 j (λ i lt. h j t (1 + i) (omega arith) (omega (arith, lt))))

whole_by_marks : (rows : List (List Bool)) (used : ℕ → ℕ → Bool) → AreMarks rows used → AreAllMarked rows → Covers (map (ranks_of 0) rows) used → (e : ℕ)
    → IsWhole (used e)
whole_by_marks rows used marks all covers e j t i low high =
    let p : HasPlace (map (ranks_of 0) rows) e j = covers e j t in
    let m = marks_of rows p.entry p.row p.there in
    let within : i - 1 < length m.0 = omega (arith, low, high, p.is_item, p.within, ap length m.2, ranks_long 0 m.0) in
    let one : i ≡ i - 1 + 1 = omega (arith, low) in
    ap (λ n. used n i) p.is_entry ∙ (ap (used (2 * p.entry + 1)) one ∙ (sym (marks p.entry (i - 1) m.0 m.1 within) ∙ all p.entry (i - 1) m.0 m.1 within))

-- ---- items and values

all_used : {X : Type 0} (u : ℕ → Bool) (k : ℕ) (xs : List X) → ((i : ℕ) → i < length xs → u (k + i) ≡ true) → used_from u k xs ≡ xs
all_used u k [] h = refl
all_used {X} u k (x ∷ xs) h =
    let here : k + 0 ≡ k = omega arith in
    cond-true (u k) (x ∷ used_from u (k + 1) xs) (used_from u (k + 1) xs) (ap u (sym here) ∙ h 0 (omega arith))
    ∙ ap (λ ys. x ∷ ys) (all_used u (k + 1) xs (λ i lt. let on : k + 1 + i ≡ k + suc i = omega arith in ap u on ∙ h (suc i) (omega (arith, lt))))

map_same : {X : Type 0} (f : X → X) (xs : List X) → ((x : X) → f x ≡ x) → map f xs ≡ xs
map_same f [] h = refl
map_same f (x ∷ xs) h = ap (λ y. y ∷ map f xs) (h x) ∙ ap (λ ys. x ∷ ys) (map_same f xs h)

indices_stay : (ds : List DueValue) (vs : List Value) → MeetsAll ds vs → with_indices ds vs ≡ vs
indices_stay [] vs h = refl
indices_stay (d ∷ ds) [] h = refl
indices_stay (number z ∷ ds) (v ∷ vs) h = ap (λ x. x ∷ with_indices ds vs) (sym h.0) ∙ ap (λ xs. v ∷ xs) (indices_stay ds vs h.1)
indices_stay (pointer z ∷ ds) (v ∷ vs) h = ap (λ xs. v ∷ xs) (indices_stay ds vs h.1)
indices_stay (flag b ∷ ds) (v ∷ vs) h = ap (λ xs. v ∷ xs) (indices_stay ds vs h.1)
indices_stay (at_least_one n ∷ ds) (v ∷ vs) h = ap (λ xs. v ∷ xs) (indices_stay ds vs h.1)
indices_stay (count n ∷ ds) (v ∷ vs) h = ap (λ xs. v ∷ xs) (indices_stay ds vs h.1)
indices_stay (coordinate w ∷ ds) (v ∷ vs) h = ap (λ xs. v ∷ xs) (indices_stay ds vs h.1)

spelling_stays : (ds : List DueValue) (vs : List Value) → IsFixed ds → MeetsAll ds vs → map spelled ds ++ drop (length ds) vs ≡ vs
spelling_stays [] vs f h = refl
spelling_stays (count n ∷ ds) vs f h = absurd f
spelling_stays (pointer z ∷ ds) [] f h = absurd h
spelling_stays (number z ∷ ds) [] f h = absurd h
spelling_stays (flag b ∷ ds) [] f h = absurd h
spelling_stays (at_least_one n ∷ ds) [] f h = absurd h
spelling_stays (coordinate w ∷ ds) [] f h = absurd h
spelling_stays (pointer z ∷ ds) (v ∷ vs) f h = ap (λ x. x ∷ (map spelled ds ++ drop (length ds) vs)) (sym h.0) ∙ ap (λ xs. v ∷ xs) (spelling_stays ds vs f h.1)
spelling_stays (number z ∷ ds) (v ∷ vs) f h = ap (λ x. x ∷ (map spelled ds ++ drop (length ds) vs)) (sym h.0) ∙ ap (λ xs. v ∷ xs) (spelling_stays ds vs f h.1)
spelling_stays (flag b ∷ ds) (v ∷ vs) f h = ap (λ x. x ∷ (map spelled ds ++ drop (length ds) vs)) (sym h.0) ∙ ap (λ xs. v ∷ xs) (spelling_stays ds vs f h.1)
spelling_stays (at_least_one n ∷ ds) (v ∷ vs) f h = ap (λ x. x ∷ (map spelled ds ++ drop (length ds) vs)) (sym h.0.0)
    ∙ ap (λ xs. v ∷ xs) (spelling_stays ds vs f h.1)
spelling_stays (coordinate w ∷ ds) (v ∷ vs) f h = ap (λ x. x ∷ (map spelled ds ++ drop (length ds) vs)) (sym h.0.0)
    ∙ ap (λ xs. v ∷ xs) (spelling_stays ds vs f h.1)

unless_same : {X : Type 0} (xs : List X) (new old : List Value) → new ≡ old → unless_none xs new old ≡ old
unless_same [] new old e = refl
unless_same (x ∷ xs) new old e = e

-- ---- an entry

module _ (g : Contents) (whole_edges : (e : ℕ) → IsWhole (is_used_edge g e)) (whole_vertices : (v : ℕ) → IsWhole (is_used_vertex g v)) where
  edge_stays : (z j : ℤ) → edge_index g z j ≡ j
  edge_stays z j = index_stays (is_used_edge g (entry_number z)) j (whole_edges (entry_number z))

  vertex_stays : (z j : ℤ) → vertex_index g z j ≡ j
  vertex_stays z j = index_stays (is_used_vertex g (entry_number z)) j (whole_vertices (entry_number z))

  tuple_stays : (t : LoopTuple) → reindexed_tuple g t ≡ t
  tuple_stays t = ap (λ j. let u : LoopTuple = record { is_vertex = t.is_vertex; «list» = t.list; index = j; flag = t.flag; curves = t.curves } in u)
      (by_test t.is_vertex)
    where
      by_test : (b : Bool) → tuple_index g b t.list t.index ≡ t.index
      by_test true = vertex_stays t.list t.index
      by_test false = edge_stays t.list t.index

  ends_stay : (x : EdgeTuple) → reindexed_edge g x ≡ x
  ends_stay x =
      ap (λ j. let y : EdgeTuple =
      record {
        curve = x.curve;
        start_list = x.start_list;
        start_index = j;
        end_list = x.end_list;
        end_index =
            vertex_index g x.end_list x.end_index;
      } in y) (vertex_stays x.start_list x.start_index)
      ∙ ap (λ j. let y : EdgeTuple = record { curve = x.curve; start_list = x.start_list; start_index = x.start_index; end_list = x.end_list; end_index = j }
      in y) (vertex_stays x.end_list x.end_index)

  loop_stays : (vs : List Value) → IsRecordOf «loop» vs → loop_values g vs ≡ vs
  loop_stays vs is = ap (λ ts. with_indices (due «loop» ts) vs) (map_same (reindexed_tuple g) (items_of «loop» vs) tuple_stays)
      ∙ indices_stay (due «loop» (items_of «loop» vs)) vs is

  edges_stay : (e : ℕ) (vs : List Value) → IsRecordOf edges vs → ((i : ℕ) → i < length (items_of edges vs) → is_used_edge g e (1 + i) ≡ true)
      → edge_values g e vs ≡ vs
  edges_stay e vs is all =
      let kept : kept_edges g e vs ≡ items_of edges vs = ap (map (reindexed_edge g)) (all_used (is_used_edge g e) 1 (items_of edges vs) all)
      ∙ map_same (reindexed_edge g) (items_of edges vs) ends_stay in
      unless_same (kept_edges g e vs) (with_items edges (kept_edges g e vs) vs) vs
      (ap (λ xs. with_items edges xs vs) kept ∙ spelling_stays (due edges (items_of edges vs)) vs (edges_fixed (items_of edges vs)) is)

  vertices_stay : (v : ℕ) (vs : List Value) → IsRecordOf vertices vs → ((i : ℕ) → i < length (items_of vertices vs) → is_used_vertex g v (1 + i) ≡ true)
      → vertex_values g v vs ≡ vs
  vertices_stay v vs is all =
      let kept : kept_vertices g v vs ≡ items_of vertices vs = all_used (is_used_vertex g v) 1 (items_of vertices vs) all in
      unless_same (kept_vertices g v vs) (with_items vertices (kept_vertices g v vs) vs) vs
      (ap (λ xs. with_items vertices xs vs) kept ∙ spelling_stays (due vertices (items_of vertices vs)) vs (vertices_fixed (items_of vertices vs)) is)

  values_stay : (m : ℕ) (r : Record) → IsOfItsKind r → ((i : ℕ) → i < length (edges_in r) → is_used_edge g m (1 + i) ≡ true)
      → ((i : ℕ) → i < length (vertices_in r) → is_used_vertex g m (1 + i) ≡ true) → dropped_values g m r ≡ r.1
  values_stay m r of_kind all_edges all_vertices = by_tests (is_kind «loop» r) (is_kind edges r) (is_kind vertices r) refl refl refl
    where
      by_tests : (a b c : Bool) → is_kind «loop» r ≡ a → is_kind edges r ≡ b → is_kind vertices r ≡ c
          → (if a then loop_values g r.1 else if b then edge_values g m r.1 else if c then vertex_values g m r.1 else r.1) ≡ r.1
      by_tests true b c l e v = loop_stays r.1 (of_kind «loop» (kind_is «loop» r l))
      by_tests false true c l e v =
          let same : edges_in r ≡ items_of edges r.1 = cond-true (is_kind edges r) (items_of edges r.1) [] e in
          edges_stay m r.1 (of_kind edges (kind_is edges r e)) (λ i lt. all_edges i (omega (arith, lt, ap length same)))
      by_tests false false true l e v =
          let same : vertices_in r ≡ items_of vertices r.1 = cond-true (is_kind vertices r) (items_of vertices r.1) [] v in
          vertices_stay m r.1 (of_kind vertices (kind_is vertices r v)) (λ i lt. all_vertices i (omega (arith, lt, ap length same)))
      by_tests false false false l e v = refl

-- ---- the file

records_stay : (g : Contents) (k : ℕ) (rs : List Record) → ((i : ℕ) (r : Record) → slice_get rs i ≡ Some r → dropped_values g (2 * (k + i) + 1) r ≡ r.1)
    → map (dropped_record g) (enumerate_from k rs) ≡ rs
records_stay g k [] h = refl
records_stay g k (r ∷ rs) h =
    let here : 2 * k + 1 ≡ 2 * (k + 0) + 1 = omega arith in
    let stays : dropped_values g (2 * k + 1) r ≡ r.1 = ap (λ m. dropped_values g m r) here ∙ h 0 r refl in
    ap (λ vs. let q : Record = (r.0, vs) in q ∷ map (dropped_record g) (enumerate_from (k + 1) rs)) stays
    ∙ ap (λ qs. r ∷ qs) (records_stay g (k + 1) rs
    (λ i q at. let on : 2 * (k + 1 + i) + 1 ≡ 2 * (k + suc i) + 1 = omega arith in ap (λ m. dropped_values g m q) on ∙ h (suc i) q at))

-- the items of an entry are used, since its row has a mark for each
used_in_row : (rows : List (List Bool)) (used : ℕ → ℕ → Bool) (rs : List Record) (size : Record → ℕ) → sizes rows ≡ map size rs → AreMarks rows used
    → AreAllMarked rows
    → (k : ℕ) (r : Record) → slice_get rs k ≡ Some r → (i : ℕ) → i < size r → used (2 * k + 1) (1 + i) ≡ true
used_in_row rows used rs size es marks all k r at i lt =
    let within : k < length rows = omega (arith, slice_get_within rs k r at, ap length es, length-map rs size, length-map rows (λ (x : List Bool). length x)) in
    let row = get_some rows k within in
    let long : length row.0 ≡ size r = row_size rows rs size k row.0 r es row.1 at in
    let there : i < length row.0 = omega (arith, long, lt) in
    let one : 1 + i ≡ i + 1 = omega arith in
    ap (used (2 * k + 1)) one ∙ (sym (marks k i row.0 row.1 there) ∙ all k i row.0 row.1 there)

pub nothing_dropped : (g : Contents) → AreRecords g → (e v : List (List Bool)) → sizes e ≡ edge_sizes g → sizes v ≡ vertex_sizes g
    → AreMarks e (is_used_edge g) → AreMarks v (is_used_vertex g) → AreAllMarked e → AreAllMarked v → g ≡ dropped g
unfolding dropped
nothing_dropped g records e v es vs me mv ae av =
    let whole_edges = whole_by_marks e (is_used_edge g) me ae (edges_covered g e es) in
    let whole_vertices = whole_by_marks v (is_used_vertex g) mv av (vertices_covered g v vs) in
    let entries : map (dropped_record g) (enumerate_from 0 g.entries) ≡ g.entries =
    records_stay g 0 g.entries (λ i r at. let none : 2 * (0 + i) + 1 ≡ 2 * i + 1 = omega arith in
    ap (λ m. dropped_values g m r) none
    ∙ values_stay g whole_edges whole_vertices (2 * i + 1) r (all_at IsOfItsKind g.entries i r records.of_kind at)
    (used_in_row e (is_used_edge g) g.entries (λ q. length (edges_in q)) es me ae i r at)
    (used_in_row v (is_used_vertex g) g.entries (λ q. length (vertices_in q)) vs mv av i r at)) in
    let same : g.entries ≡ map (dropped_record g) (enumerate_from 0 g.entries) = sym entries in
    λ j. record { start = g.start; global = g.global; entries = same j }

pub again_as : (f g : Contents) (n k : ℕ) (x : IsExtractedAs f n g k) → IsExtracted g k g
again_as f g n k x = subst (λ m. IsExtracted g m g) (sym x.is) (extracted_again f g n x.extracted)
