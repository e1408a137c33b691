-- The values of lists, one item at a time.
use Rattle.std.specs.Prelude.{◌≡◌, ℕ, zero, suc, ◌+◌, ◌*◌, ◌<◌, ◌≤◌, Bool, true, false, pos, List, [], ◌∷◌, ◌++◌, length, map, flat_map, take, drop, Some}
use Rattle.std.specs.Prelude.{slice_get, slice_index_or, if◌then◌else◌}
use Rattle.std.proofs.Common.{refl, sym, ◌∙◌, ap, arith, append_assoc, length-drop}
use Rattle.std.proofs.lemmas.Bool.{cond-true, cond-false}
use Rattle.std.proofs.lemmas.List.{length-map, append-nil, take_all}
use Rattle.std.proofs.lemmas.Option.{none-some, same_Some}
use Rattle.iges_fields.specs.declared.value.Value.{Value}
use Rattle.iges_params.specs.Contents.{Contents}
use Rattle.brep_lists.specs.DueValues.{MeetsAll}
use Rattle.brep_lists.specs.Record.{edge_due, vertex_due, due, items_of, IsRecordOf}
use Rattle.brep_lists.specs.declared.entity_kind.EntityKind.TheVariants.{EdgeList as edges, VertexList as vertices}
use Rattle.brep_lists.specs.OwnValues.{own_count}
use Rattle.brep_lists.specs.declared.edge_list.EdgeTuple.{EdgeTuple}
use Rattle.entry_references.specs.EntrySets.{marks_set}
use Rattle.entry_references.proofs.KindPlaces.{due_few, edges_length, vertices_length}
use Rattle.list_compact.specs.Used.{used_from, is_used_edge, is_used_vertex}
use Rattle.list_compact.specs.Dropped.{reindexed_edge, spelled, with_items, kept_edges, kept_vertices, edge_values, vertex_values}
use Rattle.list_compact.specs.Marking.{MarksItems, edge_spelled, vertex_spelled, int_value}
use Rattle.list_compact.proofs.MarkSteps.{used_next}
use Rattle.list_compact.proofs.Spelled.{unless_some, unless_nothing}

-- ---- how many are used

marks_counted : {X : Type 0} (u : ℕ → Bool) (k : ℕ) (bs : List Bool) (xs : List X) → length bs ≡ length xs
    → ((i : ℕ) → i < length bs → slice_index_or bs i false ≡ u (k + i)) → marks_set bs ≡ length (used_from u k xs)
marks_counted u k [] [] e h = refl
marks_counted u k [] (x ∷ xs) e h = absurd (omega (arith, e))
marks_counted u k (b ∷ bs) [] e h = absurd (omega (arith, e))
marks_counted {X} u k (true ∷ bs) (x ∷ xs) e h =
    let here : k + 0 ≡ k = omega arith in
    let is : u k ≡ true = sym (h 0 (omega arith) ∙ ap u here) in
    ap suc (marks_counted u (k + 1) bs xs (omega (arith, e)) (λ i lt. let on : k + suc i ≡ k + 1 + i = omega arith in h (suc i) (omega (arith, lt)) ∙ ap u on))
    ∙ sym (ap length (cond-true (u k) (x ∷ used_from u (k + 1) xs) (used_from u (k + 1) xs) is))
marks_counted {X} u k (false ∷ bs) (x ∷ xs) e h =
    let here : k + 0 ≡ k = omega arith in
    let is : u k ≡ false = sym (h 0 (omega arith) ∙ ap u here) in
    marks_counted u (k + 1) bs xs (omega (arith, e)) (λ i lt. let on : k + suc i ≡ k + 1 + i = omega arith in h (suc i) (omega (arith, lt)) ∙ ap u on)
    ∙ sym (ap length (cond-false (u k) (x ∷ used_from u (k + 1) xs) (used_from u (k + 1) xs) is))

pub used_counted : {X : Type 0} (u : ℕ → Bool) (row : List Bool) (xs : List X) → length row ≡ length xs → MarksItems row u
    → marks_set row ≡ length (used_from u 1 xs)
used_counted u row xs e h = marks_counted u 1 row xs e (λ i lt. let n : i + 1 ≡ 1 + i = omega arith in h i lt ∙ ap u n)

-- ---- edges

abbrev pub edges_spelled : Contents → List EdgeTuple → List Value
edges_spelled g xs = flat_map (λ (x : EdgeTuple). edge_spelled (reindexed_edge g x)) xs

flat_append : {A B : Type 0} (f : A → List B) (us vs : List A) → flat_map f (us ++ vs) ≡ flat_map f us ++ flat_map f vs
flat_append f [] vs = refl
flat_append f (u ∷ us) vs = ap (λ ys. f u ++ ys) (flat_append f us vs) ∙ sym (append_assoc (f u) (flat_map f us) (flat_map f vs))

maybe_one : {A B : Type 0} (f : A → List B) (b : Bool) (x : A) → flat_map f (if b then x ∷ [] else []) ≡ (if b then f x else [])
maybe_one f true x = append-nil (f x)
maybe_one f false x = refl

pub items_more : {A : Type 0} (f : A → List Value) (u : ℕ → Bool) (row : List Bool) (i : ℕ) (b : Bool) (xs : List A) (x : A) (head list new : List Value)
    → MarksItems row u → i < length row → b ≡ slice_index_or row i false → slice_get xs i ≡ Some x
    → list ≡ head ++ flat_map f (used_from u 1 (take i xs)) → new ≡ list ++ (if b then f x else []) → new ≡ head ++ flat_map f (used_from u 1 (take (i + 1) xs))
items_more f u row i b xs x head list new m lt eb at e en =
    en ∙ (ap (λ l. l ++ (if b then f x else [])) e
    ∙ (append_assoc head (flat_map f (used_from u 1 (take i xs))) (if b then f x else [])
    ∙ ap (λ l. head ++ l) (ap (λ l. flat_map f (used_from u 1 (take i xs)) ++ l) (sym (maybe_one f b x))
    ∙ (sym (flat_append f (used_from u 1 (take i xs)) (if b then x ∷ [] else [])) ∙ ap (flat_map f) (sym (used_next u row i b xs x m lt eb at))))))

edges_due_spelled : (es : List EdgeTuple) → map spelled (flat_map edge_due es) ≡ flat_map edge_spelled es
edges_due_spelled [] = refl
edges_due_spelled (e ∷ es) = ap (λ vs. edge_spelled e ++ vs) (edges_due_spelled es)

reindexed_spelled : (g : Contents) (xs : List EdgeTuple) → flat_map edge_spelled (map (reindexed_edge g) xs) ≡ edges_spelled g xs
reindexed_spelled g [] = refl
reindexed_spelled g (x ∷ xs) = ap (λ vs. edge_spelled (reindexed_edge g x) ++ vs) (reindexed_spelled g xs)

rest_taken : (vs : List Value) (n : ℕ) → take (length vs) (drop n vs) ≡ drop n vs
rest_taken vs n = take_all (length vs) (drop n vs) (omega (arith, length-drop n vs))

pub edges_unused : (g : Contents) (e : ℕ) (vs : List Value) (row : List Bool) (xs : List EdgeTuple) → xs ≡ items_of edges vs → length row ≡ length xs
    → MarksItems row (is_used_edge g e) → marks_set row ≡ 0 → vs ≡ edge_values g e vs
edges_unused g e vs row xs ex el m none =
    let long : length (kept_edges g e vs) ≡ length (used_from (is_used_edge g e) 1 (items_of edges vs)) =
    length-map (used_from (is_used_edge g e) 1 (items_of edges vs)) (reindexed_edge g) in
    let count : marks_set row ≡ length (used_from (is_used_edge g e) 1 (items_of edges vs)) =
    used_counted (is_used_edge g e) row (items_of edges vs) (el ∙ ap length ex) m in
    sym (unless_nothing (kept_edges g e vs) (with_items edges (kept_edges g e vs) vs) vs (omega (arith, long, count, none)))

pub edges_used : (g : Contents) (e : ℕ) (vs : List Value) (row : List Bool) (xs : List EdgeTuple) (n : ℕ) (list new : List Value) → xs ≡ items_of edges vs
    → length row ≡ length xs → MarksItems row (is_used_edge g e) → n ≡ marks_set row → (n ≡ 0 → ⊥)
    → list ≡ (int_value (pos n) ∷ []) ++ edges_spelled g (used_from (is_used_edge g e) 1 xs) → new ≡ list ++ take (length vs) (drop (1 + 5 * length xs) vs)
    → new ≡ edge_values g e vs
edges_used g e vs row xs n list new ex el m en some e1 e2 =
    let kept : List EdgeTuple = kept_edges g e vs in
    let long : length (kept_edges g e vs) ≡ length (used_from (is_used_edge g e) 1 (items_of edges vs)) =
    length-map (used_from (is_used_edge g e) 1 (items_of edges vs)) (reindexed_edge g) in
    let count : marks_set row ≡ length (used_from (is_used_edge g e) 1 (items_of edges vs)) =
    used_counted (is_used_edge g e) row (items_of edges vs) (el ∙ ap length ex) m in
    let size : n ≡ length (kept_edges g e vs) = en ∙ count ∙ sym long in
    let own : 1 + 5 * length xs ≡ own_count edges vs = omega (arith, ap length ex, edges_length (items_of edges vs)) in
    let body : edges_spelled g (used_from (is_used_edge g e) 1 xs) ≡ map spelled (flat_map edge_due (kept_edges g e vs)) =
    ap (λ us. edges_spelled g (used_from (is_used_edge g e) 1 us)) ex
    ∙ (sym (reindexed_spelled g (used_from (is_used_edge g e) 1 (items_of edges vs))) ∙ sym (edges_due_spelled (kept_edges g e vs))) in
    e2 ∙ (ap (λ l. l ++ take (length vs) (drop (1 + 5 * length xs) vs)) e1
    ∙ (ap (λ k. (int_value (pos k) ∷ edges_spelled g (used_from (is_used_edge g e) 1 xs)) ++ take (length vs) (drop (1 + 5 * length xs) vs)) size
    ∙ (ap (λ l. (int_value (pos (length (kept_edges g e vs))) ∷ l) ++ take (length vs) (drop (1 + 5 * length xs) vs)) body
    ∙ (ap (λ l. (int_value (pos (length (kept_edges g e vs))) ∷ map spelled (flat_map edge_due (kept_edges g e vs))) ++ l)
    (rest_taken vs (1 + 5 * length xs) ∙ ap (λ k. drop k vs) own)
    ∙ sym (unless_some (kept_edges g e vs) (with_items edges (kept_edges g e vs) vs) vs (positive (length (kept_edges g e vs)) (λ z. some (size ∙ z))))))))
  where
    positive : (k : ℕ) → (k ≡ 0 → ⊥) → 0 < k
    positive zero no_zero = absurd (no_zero refl)
    positive (suc k) no_zero = omega arith

-- ---- vertices

vertices_due_spelled : (xs : List (Value × Value × Value)) → map spelled (flat_map vertex_due xs) ≡ flat_map vertex_spelled xs
vertices_due_spelled [] = refl
vertices_due_spelled (x ∷ xs) = ap (λ vs. vertex_spelled x ++ vs) (vertices_due_spelled xs)

vertex_met : (xs : List (Value × Value × Value)) (ws : List Value) (i : ℕ) (x : Value × Value × Value) → MeetsAll (flat_map vertex_due xs) ws
    → slice_get xs i ≡ Some x → take 3 (drop (3 * i) ws) ≡ vertex_spelled x
vertex_met [] ws i x h at = absurd (none-some x at)
vertex_met (y ∷ xs) [] i x h at = absurd h
vertex_met (y ∷ xs) (a ∷ []) i x h at = absurd h.1
vertex_met (y ∷ xs) (a ∷ b ∷ []) i x h at = absurd h.1.1
vertex_met (y ∷ xs) (a ∷ b ∷ c ∷ ws) zero x h at =
    ap (λ z. z ∷ b ∷ c ∷ []) h.0.0 ∙ (ap (λ z. y.0 ∷ z ∷ c ∷ []) h.1.0.0 ∙ (ap (λ z. y.0 ∷ y.1 ∷ z ∷ []) h.1.1.0.0 ∙ ap vertex_spelled (same_Some y x at)))
vertex_met (y ∷ xs) (a ∷ b ∷ c ∷ ws) (suc i) x h at =
    let three : 3 * suc i ≡ suc (suc (suc (3 * i))) = omega arith in
    ap (λ n. take 3 (drop n (a ∷ b ∷ c ∷ ws))) three ∙ vertex_met xs ws i x h.1.1.1 at

pub vertex_read : (vs : List Value) (xs : List (Value × Value × Value)) (i : ℕ) (x : Value × Value × Value) → IsRecordOf vertices vs
    → xs ≡ items_of vertices vs → slice_get xs i ≡ Some x → take 3 (drop (1 + 3 * i) vs) ≡ vertex_spelled x
vertex_read [] xs i x is e at = absurd is
vertex_read (v ∷ vs) xs i x is e at =
    let one : 1 + 3 * i ≡ suc (3 * i) = omega arith in
    ap (λ n. take 3 (drop n (v ∷ vs))) one ∙ vertex_met (items_of vertices (v ∷ vs)) vs i x is.1 (ap (λ us. slice_get us i) (sym e) ∙ at)

pub vertices_unused : (g : Contents) (e : ℕ) (vs : List Value) (row : List Bool) (xs : List (Value × Value × Value)) → xs ≡ items_of vertices vs
    → length row ≡ length xs → MarksItems row (is_used_vertex g e) → marks_set row ≡ 0 → vs ≡ vertex_values g e vs
vertices_unused g e vs row xs ex el m none =
    let count : marks_set row ≡ length (kept_vertices g e vs) = used_counted (is_used_vertex g e) row (items_of vertices vs) (el ∙ ap length ex) m in
    sym (unless_nothing (kept_vertices g e vs) (with_items vertices (kept_vertices g e vs) vs) vs (sym count ∙ none))

pub vertices_used : (g : Contents) (e : ℕ) (vs : List Value) (row : List Bool) (xs : List (Value × Value × Value)) (n : ℕ) (list new : List Value)
    → xs ≡ items_of vertices vs → length row ≡ length xs → MarksItems row (is_used_vertex g e) → n ≡ marks_set row → (n ≡ 0 → ⊥)
    → list ≡ (int_value (pos n) ∷ []) ++ flat_map vertex_spelled (used_from (is_used_vertex g e) 1 xs)
    → new ≡ list ++ take (length vs) (drop (1 + 3 * length xs) vs) → new ≡ vertex_values g e vs
vertices_used g e vs row xs n list new ex el m en some e1 e2 =
    let count : marks_set row ≡ length (kept_vertices g e vs) = used_counted (is_used_vertex g e) row (items_of vertices vs) (el ∙ ap length ex) m in
    let size : n ≡ length (kept_vertices g e vs) = en ∙ count in
    let own : 1 + 3 * length xs ≡ own_count vertices vs = omega (arith, ap length ex, vertices_length (items_of vertices vs)) in
    let body : flat_map vertex_spelled (used_from (is_used_vertex g e) 1 xs) ≡ map spelled (flat_map vertex_due (kept_vertices g e vs)) =
    ap (λ us. flat_map vertex_spelled (used_from (is_used_vertex g e) 1 us)) ex ∙ sym (vertices_due_spelled (kept_vertices g e vs)) in
    e2 ∙ (ap (λ l. l ++ take (length vs) (drop (1 + 3 * length xs) vs)) e1
    ∙ (ap (λ k. (int_value (pos k) ∷ flat_map vertex_spelled (used_from (is_used_vertex g e) 1 xs)) ++ take (length vs) (drop (1 + 3 * length xs) vs)) size
    ∙ (ap (λ l. (int_value (pos (length (kept_vertices g e vs))) ∷ l) ++ take (length vs) (drop (1 + 3 * length xs) vs)) body
    ∙ (ap (λ l. (int_value (pos (length (kept_vertices g e vs))) ∷ map spelled (flat_map vertex_due (kept_vertices g e vs))) ++ l)
    (rest_taken vs (1 + 3 * length xs) ∙ ap (λ k. drop k vs) own)
    ∙ sym (unless_some (kept_vertices g e vs) (with_items vertices (kept_vertices g e vs) vs) vs
    (positive (length (kept_vertices g e vs)) (λ z. some (size ∙ z))))))))
  where
    positive : (k : ℕ) → (k ≡ 0 → ⊥) → 0 < k
    positive zero no_zero = absurd (no_zero refl)
    positive (suc k) no_zero = omega arith

pub edge_room : (vs : List Value) (xs : List EdgeTuple) → IsRecordOf edges vs → xs ≡ items_of edges vs → length vs ≤ 164000000 → 1 + 5 * length xs ≤ 164000001
edge_room vs xs is e few = omega (arith, due_few (due edges (items_of edges vs)) vs is, few, edges_length (items_of edges vs), ap length e)

pub vertex_room : (vs : List Value) (xs : List (Value × Value × Value)) → IsRecordOf vertices vs → xs ≡ items_of vertices vs → length vs ≤ 164000000
    → 1 + 3 * length xs ≤ 164000001
vertex_room vs xs is e few = omega (arith, due_few (due vertices (items_of vertices vs)) vs is, few, vertices_length (items_of vertices vs), ap length e)

pub vertex_or_none : (vs : List Value) (xs : List (Value × Value × Value)) (i : ℕ) (b : Bool) (x : Value × Value × Value) → IsRecordOf vertices vs
    → xs ≡ items_of vertices vs → slice_get xs i ≡ Some x → (if b then take 3 (drop (1 + 3 * i) vs) else []) ≡ (if b then vertex_spelled x else [])
vertex_or_none vs xs i true x is e at = vertex_read vs xs i x is e at
vertex_or_none vs xs i false x is e at = refl
