-- Marks of items, one more at a time.
use Rattle.std.specs.Prelude.{◌≡◌, ◌⊎◌, ℕ, zero, suc, ◌+◌, ◌*◌, ◌<◌, ◌≤◌, ◌==◌, ◌&&◌, ◌||◌, Bool, true, false, not, if◌then◌else◌, ℤ, pos, List, [], ◌∷◌, ◌++◌}
use Rattle.std.specs.Prelude.{length, map, flat_map, take, replicate, set, Option, Some, None, option_map, slice_get, slice_index_or}
use Rattle.std.specs.List.{AllByRecursion, list_any}
use Rattle.std.specs.Ordering.{int_eq}
use Rattle.std.proofs.Common.{refl, sym, ◌∙◌, ap, subst, arith, inl, inr, append_assoc}
use Rattle.std.proofs.Math.Bool.{or-false}
use Rattle.std.proofs.lemmas.Bool.{cases_order, cases_lt, ne_eqb}
use Rattle.std.proofs.lemmas.Bool.Decides.{Decides-int_eq}
use Rattle.std.proofs.lemmas.List.{length-set, set_past, map-append, append-nil}
use Rattle.std.proofs.lemmas.List.Folds.{list_any-append}
use Rattle.std.proofs.lemmas.Option.{none-some, same_Some, slice_get_within, slice_get-map}
use Rattle.entry_references.proofs.Marks.{get_set, same_test}
use Rattle.brep_lists.specs.Record.{LoopTuple, Items, kind_of_type, type_number, items_of, Fits, IsRecordOf}
use Rattle.brep_lists.specs.declared.entity_kind.EntityKind.{EntityKind}
use Rattle.brep_lists.specs.declared.entity_kind.EntityKind.TheVariants.{Loop as «loop», EdgeList as edges, VertexList as vertices}
use Rattle.brep_lists.specs.declared.edge_list.EdgeTuple.{EdgeTuple}
use Rattle.entry_references.specs.Refs.{Record}
use Rattle.iges_params.proofs.Copies.{one_more}
use Rattle.solid_extract.proofs.Copies.{all_at}
use Rattle.list_compact.specs.Used.{is_kind, tuples_in, edges_in, vertices_in, used_from, names_edge, names_vertex, has_end}
use Rattle.list_compact.specs.Marking.{AreMarks, IsOfItsKind, MarksItems, is_at, sizes}
use Rattle.solid_data.proofs.Members.{get_some}
use Rattle.brep_lists.proofs.KindTypes.{kind_known}
use Rattle.list_compact.proofs.DroppedEntries.{kind_test}
use Rattle.list_compact.proofs.RowSteps.{row_is}

get_same : {X : Type 0} (xs : List X) (k : ℕ) (y : X) → k < length xs → slice_get (set xs k y) k ≡ Some y
get_same [] k y lt = absurd (omega (arith, lt))
get_same (x ∷ xs) zero y lt = refl
get_same (x ∷ xs) (suc k) y lt = get_same xs k y (omega (arith, lt))

get_other : {X : Type 0} (xs : List X) (k j : ℕ) (y : X) → (k ≡ j → ⊥) → slice_get (set xs k y) j ≡ slice_get xs j
get_other [] k j y n = refl
get_other (x ∷ xs) zero zero y n = absurd (n refl)
get_other (x ∷ xs) zero (suc j) y n = refl
get_other (x ∷ xs) (suc k) zero y n = refl
get_other (x ∷ xs) (suc k) (suc j) y n = get_other xs k j y (λ e. n (ap suc e))

-- a test that fails for each item
none_at : (z j : ℤ) (e i : ℕ) → (z ≡ pos e → j ≡ pos i → ⊥) → is_at z j e i ≡ false
none_at z j e i never = by_tests (int_eq z (pos e)) (int_eq j (pos i)) refl refl
  where
    by_tests : (a b : Bool) → int_eq z (pos e) ≡ a → int_eq j (pos i) ≡ b → (a && b) ≡ false
    by_tests false b ea eb = refl
    by_tests true false ea eb = refl
    by_tests true true ea eb = absurd (never ((Decides-int_eq z (pos e)).0 ea) ((Decides-int_eq j (pos i)).0 eb))

int_test : (z : ℤ) (a b : ℕ) → z ≡ pos a → int_eq z (pos b) ≡ (a == b)
int_test z a b e = by_test (int_eq z (pos b)) refl
  where
    same : pos a ≡ pos b → a ≡ b
    same h = cc

    by_test : (t : Bool) → int_eq z (pos b) ≡ t → t ≡ (a == b)
    by_test true t = let h : a ≡ b = same (sym e ∙ (Decides-int_eq z (pos b)).0 t) in sym (subst (λ (k : ℕ). (a == k) ≡ true) h (itself a))
      where
        itself : (n : ℕ) → (n == n) ≡ true
        itself n = let k : (n == n) ≡ (0 == 0) = same_test n n 0 0 (λ h. refl) (λ h. refl) in k
    by_test false t = sym (ne_eqb a b (λ h. let no : true ≡ false = sym ((Decides-int_eq z (pos b)).1 (e ∙ ap (λ n. pos n) h)) ∙ t in absurd cc))

set_at : (ms : List Bool) (i j : ℕ) → j < length ms → slice_index_or (set ms i true) j false ≡ (slice_index_or ms j false || (i == j))
set_at ms i j lt = by_order (cases_lt i (length ms))
  where
    by_order : (i < length ms) ⊎ (length ms ≤ i) → slice_index_or (set ms i true) j false ≡ (slice_index_or ms j false || (i == j))
    by_order (inl below) = get_set ms i j below
    by_order (inr past) =
        let far : (i == j) ≡ false = ne_eqb i j (λ e. omega (arith, e, past, lt)) in
        ap (λ (xs : List Bool). slice_index_or xs j false) (set_past ms i true past)
        ∙ sym (ap (λ (b : Bool). slice_index_or ms j false || b) far ∙ or-false (slice_index_or ms j false))

pub mark_there : (rows : List (List Bool)) (u : ℕ → ℕ → Bool) (z j : ℤ) (k i : ℕ) (row : List Bool) → z ≡ pos (2 * k + 1) → j ≡ pos (i + 1)
    → slice_get rows k ≡ Some row → AreMarks rows u → AreMarks (set rows k (set row i true)) (λ e x. u e x || is_at z j e x)
mark_there rows u z j k i row ez ej at h k2 i2 row2 at2 lt = by_order (cases_order k k2)
  where
    far : (k ≡ k2 → ⊥) → slice_index_or row2 i2 false ≡ (u (2 * k2 + 1) (i2 + 1) || is_at z j (2 * k2 + 1) (i2 + 1))
    far n =
        let none : is_at z j (2 * k2 + 1) (i2 + 1) ≡ false = none_at z j (2 * k2 + 1) (i2 + 1) (λ e x. n (same (sym ez ∙ e))) in
        h k2 i2 row2 (sym (get_other rows k k2 (set row i true) n) ∙ at2) lt
        ∙ sym (ap (λ (b : Bool). u (2 * k2 + 1) (i2 + 1) || b) none ∙ or-false (u (2 * k2 + 1) (i2 + 1)))
      where
        same : pos (2 * k + 1) ≡ pos (2 * k2 + 1) → k ≡ k2
        same e = let n : 2 * k + 1 ≡ 2 * k2 + 1 = cc in omega (arith, n)

    near : k ≡ k2 → slice_index_or row2 i2 false ≡ (u (2 * k2 + 1) (i2 + 1) || is_at z j (2 * k2 + 1) (i2 + 1))
    near e =
        let is : row2 ≡ set row i true =
        same_Some row2 (set row i true)
        (sym at2 ∙ (ap (slice_get (set rows k (set row i true))) (sym e) ∙ get_same rows k (set row i true) (slice_get_within rows k row at))) in
        let within : i2 < length row = omega (arith, lt, ap length is, length-set row i true) in
        let first : int_eq z (pos (2 * k2 + 1)) ≡ true = (Decides-int_eq z (pos (2 * k2 + 1))).1 (ez ∙ ap (λ n. pos (2 * n + 1)) e) in
        let second : int_eq j (pos (i2 + 1)) ≡ (i == i2) = int_test j (i + 1) (i2 + 1) ej ∙ same_test (i + 1) (i2 + 1) i i2 (λ x. omega (arith, x))
        (λ x. omega (arith, x)) in
        let here : is_at z j (2 * k2 + 1) (i2 + 1) ≡ (i == i2) = ap (λ (b : Bool). b && int_eq j (pos (i2 + 1))) first ∙ second in
        ap (λ (xs : List Bool). slice_index_or xs i2 false) is
        ∙ (set_at row i i2 within
        ∙ (ap (λ (b : Bool). b || (i == i2)) (h k i2 row at within ∙ ap (λ n. u (2 * n + 1) (i2 + 1)) e)
        ∙ ap (λ (b : Bool). u (2 * k2 + 1) (i2 + 1) || b) (sym here)))

    by_order : (k ≡ k2) ⊎ ((k < k2) ⊎ (k2 < k)) → slice_index_or row2 i2 false ≡ (u (2 * k2 + 1) (i2 + 1) || is_at z j (2 * k2 + 1) (i2 + 1))
    by_order (inl e) = near e
    by_order (inr (inl less)) = far (λ e. omega (arith, less, e))
    by_order (inr (inr more)) = far (λ e. omega (arith, more, e))

pub mark_nowhere : (rows : List (List Bool)) (u : ℕ → ℕ → Bool) (z j : ℤ) → ((k i : ℕ) → k < length rows → z ≡ pos (2 * k + 1) → j ≡ pos (i + 1) → ⊥)
    → AreMarks rows u → AreMarks rows (λ e x. u e x || is_at z j e x)
mark_nowhere rows u z j never h k i row at lt =
    let none : is_at z j (2 * k + 1) (i + 1) ≡ false = none_at z j (2 * k + 1) (i + 1) (never k i (slice_get_within rows k row at)) in
    h k i row at lt ∙ sym (ap (λ (b : Bool). u (2 * k + 1) (i + 1) || b) none ∙ or-false (u (2 * k + 1) (i + 1)))

pub sizes_stay : (rows : List (List Bool)) (k i : ℕ) (row : List Bool) → slice_get rows k ≡ Some row → sizes (set rows k (set row i true)) ≡ sizes rows
sizes_stay [] k i row at = absurd cc
sizes_stay (x ∷ rows) zero i row at = ap (λ n. n ∷ sizes rows) (length-set row i true ∙ ap length (sym (same_Some x row at)))
sizes_stay (x ∷ rows) (suc k) i row at = ap (λ ns. length x ∷ ns) (sizes_stay rows k i row at)

pub marked_at : (rows : List (List Bool)) (u : ℕ → ℕ → Bool) (z j : ℤ) (k i : ℕ) → z ≡ pos (2 * k + 1) → j ≡ pos (i + 1) → AreMarks rows u
    → AreMarks (set rows k (set (slice_index_or rows k []) i true)) (λ e x. u e x || is_at z j e x)
marked_at rows u z j k i ez ej h = by_order (cases_lt k (length rows))
  where
    same : (m : ℕ) → pos (2 * k + 1) ≡ pos (2 * m + 1) → k ≡ m
    same m e = let n : 2 * k + 1 ≡ 2 * m + 1 = cc in omega (arith, n)

    by_order : (k < length rows) ⊎ (length rows ≤ k) → AreMarks (set rows k (set (slice_index_or rows k []) i true)) (λ e x. u e x || is_at z j e x)
    by_order (inl lt) = let r = get_some rows k lt in subst (λ (row : List Bool). AreMarks (set rows k (set row i true)) (λ e x. u e x || is_at z j e x))
        (sym (row_is rows k r.0 r.1)) (mark_there rows u z j k i r.0 ez ej r.1 h)
    by_order (inr le) = subst (λ (new : List (List Bool)). AreMarks new (λ e x. u e x || is_at z j e x))
        (sym (set_past rows k (set (slice_index_or rows k []) i true) le))
        (mark_nowhere rows u z j (λ m x lt en ex. omega (arith, same m (sym ez ∙ en), lt, le)) h)

pub sizes_at : (rows : List (List Bool)) (k i : ℕ) → sizes (set rows k (set (slice_index_or rows k []) i true)) ≡ sizes rows
sizes_at rows k i = by_order (cases_lt k (length rows))
  where
    by_order : (k < length rows) ⊎ (length rows ≤ k) → sizes (set rows k (set (slice_index_or rows k []) i true)) ≡ sizes rows
    by_order (inl lt) = let r = get_some rows k lt in ap (λ (row : List Bool). sizes (set rows k (set row i true))) (row_is rows k r.0 r.1)
        ∙ sizes_stay rows k i r.0 r.1
    by_order (inr le) = ap (λ (new : List (List Bool)). sizes new) (set_past rows k (set (slice_index_or rows k []) i true) le)

-- by another test that is the same
pub marks_as : (rows : List (List Bool)) (u v : ℕ → ℕ → Bool) → ((e j : ℕ) → u e j ≡ v e j) → AreMarks rows u → AreMarks rows v
marks_as rows u v same h k i row at lt = h k i row at lt ∙ same (2 * k + 1) (i + 1)

-- ---- tuples and edges

either_assoc : (a b c : Bool) → ((a || b) || c) ≡ (a || (b || c))
either_assoc true b c = refl
either_assoc false b c = refl

pub tuple_marked : (t : LoopTuple) (b : Bool) → t.is_vertex ≡ b → (e j : ℕ) → (is_at t.list t.index e j ≡ (if b then names_vertex e j t else names_edge e j t))
tuple_marked t true e a b = sym (ap (λ (c : Bool). c && is_at t.list t.index a b) e)
tuple_marked t false e a b = sym (ap (λ (c : Bool). not c && is_at t.list t.index a b) e)

pub not_vertex : (t : LoopTuple) → t.is_vertex ≡ false → (v j : ℕ) → names_vertex v j t ≡ false
not_vertex t e v j = ap (λ (c : Bool). c && is_at t.list t.index v j) e

pub not_edge : (t : LoopTuple) → t.is_vertex ≡ true → (v j : ℕ) → names_edge v j t ≡ false
not_edge t e v j = ap (λ (c : Bool). not c && is_at t.list t.index v j) e

pub vertices_stay : (rows : List (List Bool)) (u : ℕ → ℕ → Bool) (t : LoopTuple) → t.is_vertex ≡ false → AreMarks rows u
    → AreMarks rows (λ v j. u v j || names_vertex v j t)
vertices_stay rows u t e h =
    marks_as rows u (λ v j. u v j || names_vertex v j t) (λ v j. sym (ap (λ (b : Bool). u v j || b) (not_vertex t e v j) ∙ or-false (u v j))) h

pub edges_stay : (rows : List (List Bool)) (u : ℕ → ℕ → Bool) (t : LoopTuple) → t.is_vertex ≡ true → AreMarks rows u
    → AreMarks rows (λ v j. u v j || names_edge v j t)
edges_stay rows u t e h = marks_as rows u (λ v j. u v j || names_edge v j t) (λ v j. sym (ap (λ (b : Bool). u v j || b) (not_edge t e v j) ∙ or-false (u v j)))
    h

pub vertex_marks : (rows : List (List Bool)) (u : ℕ → ℕ → Bool) (t : LoopTuple) (z i : ℤ) → z ≡ t.list → i ≡ t.index → t.is_vertex ≡ true
    → AreMarks rows (λ e j. u e j || is_at z i e j) → AreMarks rows (λ e j. u e j || names_vertex e j t)
vertex_marks rows u t z i ez ei v h =
    marks_as rows (λ e j. u e j || is_at z i e j) (λ e j. u e j || names_vertex e j t)
    (λ e j. ap (λ (b : Bool). u e j || b) (ap (λ w. is_at w i e j) ez ∙ (ap (λ w. is_at t.list w e j) ei ∙ tuple_marked t true v e j))) h

pub edge_marks : (rows : List (List Bool)) (u : ℕ → ℕ → Bool) (t : LoopTuple) (z i : ℤ) → z ≡ t.list → i ≡ t.index → t.is_vertex ≡ false
    → AreMarks rows (λ e j. u e j || is_at z i e j) → AreMarks rows (λ e j. u e j || names_edge e j t)
edge_marks rows u t z i ez ei v h =
    marks_as rows (λ e j. u e j || is_at z i e j) (λ e j. u e j || names_edge e j t)
    (λ e j. ap (λ (b : Bool). u e j || b) (ap (λ w. is_at w i e j) ez ∙ (ap (λ w. is_at t.list w e j) ei ∙ tuple_marked t false v e j))) h

pub end_marks : (rows : List (List Bool)) (u : ℕ → ℕ → Bool) (x : EdgeTuple) (a b c d : ℤ) → a ≡ x.start_list → b ≡ x.start_index → c ≡ x.end_list
    → d ≡ x.end_index → AreMarks rows (λ e j. (u e j || is_at a b e j) || is_at c d e j) → AreMarks rows (λ e j. u e j || has_end e j x)
end_marks rows u x a b c d ea eb ec ed h =
    marks_as rows (λ e j. (u e j || is_at a b e j) || is_at c d e j) (λ e j. u e j || has_end e j x)
    (λ e j. either_assoc (u e j) (is_at a b e j) (is_at c d e j)
    ∙ (ap (λ z. u e j || (is_at z b e j || is_at c d e j)) ea
    ∙ (ap (λ z. u e j || (is_at x.start_list z e j || is_at c d e j)) eb
    ∙ (ap (λ z. u e j || (is_at x.start_list x.start_index e j || is_at z d e j)) ec
    ∙ ap (λ z. u e j || (is_at x.start_list x.start_index e j || is_at x.end_list z e j)) ed)))) h

-- ---- lists of them, as they go by

-- the marks are those that the test that was and the items that went by give; `left` are those to come
pub record GoneBy {X : Type 0} (names : ℕ → ℕ → X → Bool) (used : ℕ → ℕ → Bool) (all left : List X) (rows : List (List Bool)) : Type 0 where
  pub so_far : ℕ → ℕ → Bool
  pub marks : AreMarks rows so_far
  pub same : (e j : ℕ) → (so_far e j || list_any (names e j) left) ≡ (used e j || list_any (names e j) all)

module _ {X : Type 0} (names : ℕ → ℕ → X → Bool) (used : ℕ → ℕ → Bool) (all : List X) where
  pub none_gone : (rows : List (List Bool)) (left : List X) → left ≡ all → AreMarks rows used → GoneBy names used all left rows
  none_gone rows left e h = record { so_far = used; marks = h; same = λ v j. ap (λ xs. used v j || list_any (names v j) xs) e }

  pub one_gone : (rows new : List (List Bool)) (left rest : List X) (x : X) → left ≡ x ∷ rest → (g : GoneBy names used all left rows)
      → ((u : ℕ → ℕ → Bool) → AreMarks rows u → AreMarks new (λ e j. u e j || names e j x)) → GoneBy names used all rest new
  one_gone rows new left rest x e g step = record {
    so_far = λ v j. g.so_far v j || names v j x;
    marks = step g.so_far g.marks;
    same = λ v j. either_assoc (g.so_far v j) (names v j x) (list_any (names v j) rest)
        ∙ (ap (λ xs. g.so_far v j || list_any (names v j) xs) (sym e) ∙ g.same v j);
  }

  pub all_gone : (rows : List (List Bool)) (left : List X) → left ≡ [] → GoneBy names used all left rows
      → AreMarks rows (λ e j. used e j || list_any (names e j) all)
  all_gone rows left e g =
      marks_as rows g.so_far (λ v j. used v j || list_any (names v j) all)
      (λ v j. sym (or-false (g.so_far v j)) ∙ (ap (λ xs. g.so_far v j || list_any (names v j) xs) (sym e) ∙ g.same v j)) g.marks

-- ---- rows in which nothing is marked

replicated : (n i : ℕ) → i < n → slice_index_or (replicate n false) i false ≡ false
replicated zero i lt = absurd (omega (arith, lt))
replicated (suc n) zero lt = refl
replicated (suc n) (suc i) lt = replicated n i (omega (arith, lt))

replicate_long : (n : ℕ) → length (replicate n false) ≡ n
replicate_long zero = refl
replicate_long (suc n) = ap suc (replicate_long n)

abbrev pub blank_rows : (Record → ℕ) → List Record → List (List Bool)
blank_rows count rs = map (λ r. replicate (count r) false) rs

pub blank_marks : (count : Record → ℕ) (rs : List Record) (rows : List (List Bool)) → rows ≡ blank_rows count rs → AreMarks rows (λ e j. false)
blank_marks count rs rows e k i row at lt =
    by_record (slice_get rs k) (sym (slice_get-map (λ r. replicate (count r) false) rs k) ∙ (sym (ap (λ (xs : List (List Bool)). slice_get xs k) e) ∙ at))
  where
    by_record : (o : Option Record) → option_map (λ r. replicate (count r) false) o ≡ Some row → slice_index_or row i false ≡ false
    by_record None h = absurd (none-some row h)
    by_record (Some r) h =
        let is : replicate (count r) false ≡ row = same_Some (replicate (count r) false) row h in
        ap (λ (xs : List Bool). slice_index_or xs i false) (sym is) ∙ replicated (count r) i (omega (arith, lt, ap length is, replicate_long (count r)))

pub blank_sizes : (count : Record → ℕ) (rs : List Record) (rows : List (List Bool)) → rows ≡ blank_rows count rs → sizes rows ≡ map count rs
blank_sizes count rs rows e = ap (λ (xs : List (List Bool)). sizes xs) e ∙ each rs
  where
    each : (qs : List Record) → sizes (blank_rows count qs) ≡ map count qs
    each [] = refl
    each (q ∷ qs) = ap (λ n. n ∷ sizes (blank_rows count qs)) (replicate_long (count q)) ∙ ap (λ ns. count q ∷ ns) (each qs)

pub blank_more : (count : Record → ℕ) (rs : List Record) (i n : ℕ) (r : Record) (rows new : List (List Bool)) → slice_get rs i ≡ Some r → n ≡ count r
    → rows ≡ blank_rows count (take i rs) → new ≡ rows ++ replicate n false ∷ [] → new ≡ blank_rows count (take (i + 1) rs)
blank_more count rs i n r rows new at en e em =
    em ∙ (ap (λ (xs : List (List Bool)). xs ++ replicate n false ∷ []) e
    ∙ (ap (λ m. blank_rows count (take i rs) ++ replicate m false ∷ []) en
    ∙ sym (ap (blank_rows count) (one_more rs i r at) ∙ map-append (λ q. replicate (count q) false) (take i rs) (r ∷ []))))

-- ---- entries one by one

module _ {X : Type 0} (names : ℕ → ℕ → X → Bool) (used : ℕ → ℕ → Bool) where
  pub nothing_named : (rows : List (List Bool)) (xs : List X) → xs ≡ [] → AreMarks rows used → AreMarks rows (λ e j. used e j || list_any (names e j) xs)
  nothing_named rows xs none h = marks_as rows used (λ e j. used e j || list_any (names e j) xs)
      (λ e j. sym (ap (λ ys. used e j || list_any (names e j) ys) none ∙ or-false (used e j))) h

  pub more_named : (rows : List (List Bool)) (xs ys zs : List X) → zs ≡ xs ++ ys
      → AreMarks rows (λ e j. (used e j || list_any (names e j) xs) || list_any (names e j) ys) → AreMarks rows (λ e j. used e j || list_any (names e j) zs)
  more_named rows xs ys zs es h =
      marks_as rows (λ e j. (used e j || list_any (names e j) xs) || list_any (names e j) ys) (λ e j. used e j || list_any (names e j) zs)
      (λ e j. either_assoc (used e j) (list_any (names e j) xs) (list_any (names e j) ys)
      ∙ ap (λ b. used e j || b) (sym (ap (list_any (names e j)) es ∙ list_any-append (names e j) xs ys))) h

  pub named_as : (rows : List (List Bool)) (xs ys : List X) → xs ≡ ys → AreMarks rows (λ e j. used e j || list_any (names e j) xs)
      → AreMarks rows (λ e j. used e j || list_any (names e j) ys)
  named_as rows xs ys e h = subst (λ (zs : List X). AreMarks rows (λ v j. used v j || list_any (names v j) zs)) e h

pub flat_more : {A B : Type 0} (f : A → List B) (xs : List A) (i : ℕ) (x : A) → slice_get xs i ≡ Some x → flat_map f (take (i + 1) xs) ≡ flat_map f (take i xs)
    ++ f x
flat_more f xs i x at = ap (flat_map f) (one_more xs i x at) ∙ (flat_append (take i xs) (x ∷ []) ∙ ap (λ ys. flat_map f (take i xs) ++ ys) (append-nil (f x)))
  where
    flat_append : (us vs : List _) → flat_map f (us ++ vs) ≡ flat_map f us ++ flat_map f vs
    flat_append [] vs = refl
    flat_append (u ∷ us) vs = ap (λ ys. f u ++ ys) (flat_append us vs) ∙ sym (append_assoc (f u) (flat_map f us) (flat_map f vs))

pub used_more : {X : Type 0} (used : ℕ → Bool) (k i : ℕ) (xs : List X) (x : X) → slice_get xs i ≡ Some x
    → used_from used k (take (i + 1) xs) ≡ used_from used k (take i xs) ++ (if used (k + i) then x ∷ [] else [])
used_more used k i [] x at = absurd (none-some x at)
used_more used k zero (y ∷ xs) x at =
    let here : k ≡ k + 0 = omega arith in
    ap (λ z. if used k then z ∷ [] else []) (same_Some y x at) ∙ ap (λ j. if used j then x ∷ [] else []) here
used_more {X} used k (suc i) (y ∷ xs) x at =
    let on : k + 1 + i ≡ k + suc i = omega arith in
    let more : suc i + 1 ≡ suc (i + 1) = omega arith in
    ap (λ n. used_from used k (take n (y ∷ xs))) more
    ∙ by_test (used k) (used_more used (k + 1) i xs x at ∙ ap (λ j. used_from used (k + 1) (take i xs) ++ (if used j then x ∷ [] else [])) on)
  where
    by_test : (b : Bool) → used_from used (k + 1) (take (i + 1) xs) ≡ used_from used (k + 1) (take i xs) ++ (if used (k + suc i) then x ∷ [] else [])
        → (if b then y ∷ used_from used (k + 1) (take (i + 1) xs) else used_from used (k + 1) (take (i + 1) xs))
        ≡ (if b then y ∷ used_from used (k + 1) (take i xs) else used_from used (k + 1) (take i xs)) ++ (if used (k + suc i) then x ∷ [] else [])
    by_test true h = ap (λ zs. y ∷ zs) h
    by_test false h = h

not_kind : (kind : EntityKind) (r : Record) → (r.0.kind ≡ type_number kind → ⊥) → is_kind kind r ≡ false
not_kind kind r n = by_test (is_kind kind r) refl
  where
    by_test : (b : Bool) → is_kind kind r ≡ b → is_kind kind r ≡ false
    by_test true t = absurd (n ((Decides-int_eq r.0.kind (type_number kind)).0 t))
    by_test false t = t

-- an entry of the type is a record of its kind
pub is_list : (kind : EntityKind) (r : Record) → IsOfItsKind r → r.0.kind ≡ type_number kind → IsRecordOf kind r.1
is_list kind r of_kind e = of_kind kind (ap kind_of_type e ∙ kind_known kind)

no_items : {X : Type 0} (b : Bool) (xs : List X) → b ≡ false → (if b then xs else []) ≡ []
no_items b xs e = ap (λ c. if c then xs else []) e

these_items : {X : Type 0} (b : Bool) (xs : List X) → b ≡ true → (if b then xs else []) ≡ xs
these_items b xs e = ap (λ c. if c then xs else []) e

pub no_tuples : (r : Record) → (r.0.kind ≡ pos 508 → ⊥) → tuples_in r ≡ []
no_tuples r n = no_items (is_kind «loop» r) (items_of «loop» r.1) (not_kind «loop» r n)

pub no_edges : (r : Record) → (r.0.kind ≡ pos 504 → ⊥) → edges_in r ≡ []
no_edges r n = no_items (is_kind edges r) (items_of edges r.1) (not_kind edges r n)

pub no_vertices : (r : Record) → (r.0.kind ≡ pos 502 → ⊥) → vertices_in r ≡ []
no_vertices r n = no_items (is_kind vertices r) (items_of vertices r.1) (not_kind vertices r n)

pub the_tuples : (r : Record) → r.0.kind ≡ pos 508 → tuples_in r ≡ items_of «loop» r.1
the_tuples r e = these_items (is_kind «loop» r) (items_of «loop» r.1) (kind_test «loop» r e)

pub the_edges : (r : Record) → r.0.kind ≡ pos 504 → edges_in r ≡ items_of edges r.1
the_edges r e = these_items (is_kind edges r) (items_of edges r.1) (kind_test edges r e)

pub the_vertices : (r : Record) → r.0.kind ≡ pos 502 → vertices_in r ≡ items_of vertices r.1
the_vertices r e = these_items (is_kind vertices r) (items_of vertices r.1) (kind_test vertices r e)

-- a record that is not there
pub never_none : (kind : EntityKind) (r : Record) → IsOfItsKind r → r.0.kind ≡ type_number kind → ((items : Items kind) → Fits kind r.1 items → ⊥) → ⊥
never_none kind r of_kind e none = none (items_of kind r.1) (is_list kind r of_kind e)

pub at_record : (P : Record → Type 0) (rs : List Record) (i : ℕ) (r : Record) → AllByRecursion P rs → slice_get rs i ≡ Some r → P r
at_record P rs i r all at = all_at P rs i r all at

-- the test of an item by its mark
pub used_next : {X : Type 0} (used : ℕ → Bool) (row : List Bool) (i : ℕ) (b : Bool) (xs : List X) (x : X) → MarksItems row used → i < length row
    → b ≡ slice_index_or row i false → slice_get xs i ≡ Some x → used_from used 1 (take (i + 1) xs) ≡ used_from used 1 (take i xs) ++ (if b then x ∷ [] else [])
used_next used row i b xs x m lt e at =
    let here : 1 + i ≡ i + 1 = omega arith in
    used_more used 1 i xs x at
    ∙ (ap (λ j. used_from used 1 (take i xs) ++ (if used j then x ∷ [] else [])) here
    ∙ ap (λ c. used_from used 1 (take i xs) ++ (if c then x ∷ [] else [])) (sym (e ∙ m i lt)))
