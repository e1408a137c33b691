-- What the records of a sample tell.
use Rattle.std.specs.Prelude.{◌≡◌, ℕ, suc, ◌+◌, ◌*◌, ◌/◌, ◌%◌, ◌<◌, ◌==◌, Bool, true, false, ℤ, pos, List, [], ◌∷◌, ◌++◌, length, map, flat_map, Some, None}
use Rattle.std.specs.Prelude.{slice_get, if◌then◌else◌}
use Rattle.std.specs.Ordering.{int_eq}
use Rattle.std.proofs.Common.{refl, sym, ◌∙◌, ap, subst, arith, inl}
use Rattle.std.proofs.Math.Nat.{mul_assoc}
use Rattle.std.proofs.lemmas.Nat.{mul-lt}
use Rattle.std.proofs.lemmas.List.{length-map}
use Rattle.iges_fields.specs.declared.value.Value.{Value}
use Rattle.iges_directory.specs.Named.{unless_unused}
use Rattle.iges_params.specs.Named.{kind_of, named}
use Rattle.brep_lists.specs.DueValues.{MeetsAll}
use Rattle.brep_lists.specs.Record.{LoopTuple, pair_due, edge_due, vertex_due, due, items_of, IsRecordOf, groups, pair_read, edge_read}
use Rattle.brep_lists.specs.declared.entity_kind.EntityKind.TheVariants.{Solid as solid, Shell as shell, Face as face, Loop as «loop», EdgeList as edges}
use Rattle.brep_lists.specs.declared.entity_kind.EntityKind.TheVariants.{VertexList as vertices}
use Rattle.brep_lists.specs.declared.edge_list.EdgeTuple.{EdgeTuple}
use Rattle.brep_lists.proofs.Stride.{vertex_read}
use Rattle.sample_solids.specs.Sample.{squares, vertex_index, across_index, up_index, face_number, whole, entry, face_listed, vertex_listed, edges_listed}
use Rattle.sample_solids.specs.Sample.{shell_record, vertex_record, edge_record, face_record, loop_record, first_entries, face_entries, sample}
use Rattle.sample_solids.proofs.Squares.{get_right, get_chunk, length_squares, squares_get, square_small, length_chunks}
use Rattle.sample_solids.proofs.Growing.{AnEntry}

-- ---- what numbers name

pub named_at : (n z m : ℕ) (r : AnEntry) → z ≡ 2 * m + 1 → slice_get (sample n).entries m ≡ Some r → int_eq r.0.kind (pos 0) ≡ false
    → named (sample n) (pos z) ≡ Some r
named_at n z m r e at used =
    let odd : z % 2 ≡ 1 = omega (arith, e) in
    let half : z / 2 ≡ m = omega (arith, e) in
    ap (λ k. if k == 1 then unless_unused kind_of (slice_get (sample n).entries (z / 2)) else None) odd
    ∙ (ap (λ k. unless_unused kind_of (slice_get (sample n).entries k)) half
    ∙ (ap (unless_unused kind_of) at ∙ ap (λ b. if b then None else Some r) used))

pub solid_named : (n : ℕ) → named (sample n) (pos 1) ≡ Some (entry 186 0 (3 ∷ 1 ∷ 0 ∷ []))
unfolding sample
solid_named n = refl

pub shell_named : (n : ℕ) → named (sample n) (pos 3) ≡ Some (entry 514 1 (shell_record n))
unfolding sample
shell_named n = refl

pub vertices_named : (n : ℕ) → named (sample n) (pos 5) ≡ Some (entry 502 1 (vertex_record n))
unfolding sample
vertices_named n = refl

pub edges_named : (n : ℕ) → named (sample n) (pos 7) ≡ Some (entry 504 1 (edge_record n))
unfolding sample
edges_named n = refl

pub line_named : (n : ℕ) → named (sample n) (pos 9) ≡ Some (entry 110 0 (0 ∷ 0 ∷ 0 ∷ 1 ∷ 0 ∷ 0 ∷ []))
unfolding sample
line_named n = refl

pub plane_named : (n : ℕ) → named (sample n) (pos 11) ≡ Some (entry 108 0 (0 ∷ 0 ∷ 1 ∷ 0 ∷ 0 ∷ 0 ∷ 0 ∷ 0 ∷ 0 ∷ []))
unfolding sample
plane_named n = refl

-- the r-th entry of a square stands behind the first six and two for each square before it
square_entry : (n i j r : ℕ) → i < n → j < n → r < 2 → slice_get (sample n).entries (6 + (2 * (i * n + j) + r)) ≡ slice_get (face_entries n (i, j)) r
unfolding sample
square_entry n i j r li lj lt =
    get_right (first_entries n) (flat_map (face_entries n) (squares n)) (6 + (2 * (i * n + j) + r)) (2 * (i * n + j) + r) refl
    ∙ get_chunk (face_entries n) 2 (squares n) (λ s h. refl) (i * n + j) r (2 * (i * n + j) + r) (i, j) (squares_get n i j (i * n + j) li lj refl) lt refl

pub face_named : (n i j : ℕ) → i < n → j < n → named (sample n) (pos (face_number n i j)) ≡ Some (entry 510 1 (face_record n (i, j)))
face_named n i j li lj =
    let e = square_small n i j li lj in
    named_at n (face_number n i j) (6 + (2 * (i * n + j) + 0)) (entry 510 1 (face_record n (i, j))) (omega (arith, e))
    (square_entry n i j 0 li lj (omega arith)) refl

pub loop_named : (n i j : ℕ) → i < n → j < n → named (sample n) (pos (face_number n i j + 2)) ≡ Some (entry 508 1 (loop_record n (i, j)))
loop_named n i j li lj =
    let e = square_small n i j li lj in
    named_at n (face_number n i j + 2) (6 + (2 * (i * n + j) + 1)) (entry 508 1 (loop_record n (i, j))) (omega (arith, e))
    (square_entry n i j 1 li lj (omega arith)) refl

-- ---- the items of the records

abbrev pub face_item : ℕ → ℕ × ℕ → ℤ × Bool
face_item n s = (pos (face_number n s.0 s.1), true)

shell_groups : (n : ℕ) (ss : List (ℕ × ℕ)) → map pair_read (groups 2 (length ss) (map whole (flat_map (face_listed n) ss))) ≡ map (face_item n) ss
shell_groups n [] = refl
shell_groups n (s ∷ ss) = ap (λ items. face_item n s ∷ items) (shell_groups n ss)

pub shell_items : (n : ℕ) → items_of shell (map whole (shell_record n)) ≡ map (face_item n) (squares n)
shell_items n = ap (λ m. map pair_read (groups 2 m (map whole (flat_map (face_listed n) (squares n))))) (sym (length_squares n)) ∙ shell_groups n (squares n)

abbrev pub vertex_item : ℕ × ℕ → Value × Value × Value
vertex_item s = (whole s.0, whole s.1, whole 0)

vertex_groups : (ss : List (ℕ × ℕ)) → map vertex_read (groups 3 (length ss) (map whole (flat_map vertex_listed ss))) ≡ map vertex_item ss
vertex_groups [] = refl
vertex_groups (s ∷ ss) = ap (λ items. vertex_item s ∷ items) (vertex_groups ss)

pub vertex_items : (n : ℕ) → items_of vertices (map whole (vertex_record n)) ≡ map vertex_item (squares n)
vertex_items n = ap (λ m. map vertex_read (groups 3 m (map whole (flat_map vertex_listed (squares n))))) (sym (length_squares n)) ∙ vertex_groups (squares n)

abbrev pub edge_tuple : ℕ → ℕ → EdgeTuple
edge_tuple from to = record { curve = pos 9; start_list = pos 5; start_index = pos from; end_list = pos 5; end_index = pos to }

-- the edge across and the edge up
abbrev pub edge_items_of : ℕ → ℕ × ℕ → List EdgeTuple
edge_items_of n s =
    edge_tuple (vertex_index n s.0 s.1) (vertex_index n s.0 (s.1 + 1))
    ∷ edge_tuple (vertex_index n s.0 s.1) (vertex_index n (s.0 + 1) s.1)
    ∷ []

abbrev twice : List (ℕ × ℕ) → ℕ
twice [] = 0
twice (s ∷ ss) = suc (suc (twice ss))

twice_length : (ss : List (ℕ × ℕ)) → twice ss ≡ 2 * length ss
twice_length [] = omega arith
twice_length (s ∷ ss) = omega (arith, twice_length ss)

twice_squares : (n : ℕ) → 2 * n * n ≡ twice (squares n)
twice_squares n = mul_assoc 2 n n ∙ (ap (λ m. 2 * m) (sym (length_squares n)) ∙ sym (twice_length (squares n)))

edge_groups : (n : ℕ) (ss : List (ℕ × ℕ)) → map edge_read (groups 5 (twice ss) (map whole (flat_map (edges_listed n) ss))) ≡ flat_map (edge_items_of n) ss
edge_groups n [] = refl
edge_groups n (s ∷ ss) = ap (λ items. edge_items_of n s ++ items) (edge_groups n ss)

pub edge_items : (n : ℕ) → items_of edges (map whole (edge_record n)) ≡ flat_map (edge_items_of n) (squares n)
edge_items n = ap (λ m. map edge_read (groups 5 m (map whole (flat_map (edges_listed n) (squares n))))) (twice_squares n) ∙ edge_groups n (squares n)

abbrev pub use_tuple : ℕ → Bool → LoopTuple
use_tuple index flag = record { is_vertex = false; «list» = pos 7; index = pos index; flag = flag; curves = [] }

abbrev pub loop_tuples : ℕ → ℕ × ℕ → List LoopTuple
loop_tuples n s =
    use_tuple (across_index n s.0 s.1) true
    ∷ use_tuple (up_index n s.0 (s.1 + 1)) true
    ∷ use_tuple (across_index n (s.0 + 1) s.1) false
    ∷ use_tuple (up_index n s.0 s.1) false
    ∷ []

pub loop_items : (n : ℕ) (s : ℕ × ℕ) → items_of «loop» (map whole (loop_record n s)) ≡ loop_tuples n s
loop_items n s = refl

-- ---- each record is of its kind

pub some_squares : (n : ℕ) → 0 < n → 0 < n * n
some_squares n some = mul-lt 0 0 n n some some

pub solid_fits : IsRecordOf solid (map whole (3 ∷ 1 ∷ 0 ∷ []))
solid_fits = (refl, (refl, (inl refl, tt)))

faces_meet : (n : ℕ) (ss : List (ℕ × ℕ)) → MeetsAll (flat_map pair_due (map (face_item n) ss)) (map whole (flat_map (face_listed n) ss))
faces_meet n [] = tt
faces_meet n (s ∷ ss) = (refl, (refl, faces_meet n ss))

pub shell_fits : (n : ℕ) → 0 < n → IsRecordOf shell (map whole (shell_record n))
shell_fits n some =
    let count : length (map (face_item n) (squares n)) ≡ n * n = length-map (squares n) (face_item n) ∙ length_squares n in
    let many : 0 < length (map (face_item n) (squares n)) = omega (arith, count, some_squares n some) in
    subst (λ items. MeetsAll (due shell items) (map whole (shell_record n))) (sym (shell_items n)) ((ap whole (sym count), many), faces_meet n (squares n))

vertices_meet : (ss : List (ℕ × ℕ)) → MeetsAll (flat_map vertex_due (map vertex_item ss)) (map whole (flat_map vertex_listed ss))
vertices_meet [] = tt
vertices_meet (s ∷ ss) = ((refl, tt), ((refl, tt), ((refl, tt), vertices_meet ss)))

pub vertices_fit : (n : ℕ) → 0 < n → IsRecordOf vertices (map whole (vertex_record n))
vertices_fit n some =
    let count : length (map vertex_item (squares n)) ≡ n * n = length-map (squares n) vertex_item ∙ length_squares n in
    let many : 0 < length (map vertex_item (squares n)) = omega (arith, count, some_squares n some) in
    subst (λ items. MeetsAll (due vertices items) (map whole (vertex_record n))) (sym (vertex_items n))
    ((ap whole (sym count), many), vertices_meet (squares n))

edges_meet : (n : ℕ) (ss : List (ℕ × ℕ)) → MeetsAll (flat_map edge_due (flat_map (edge_items_of n) ss)) (map whole (flat_map (edges_listed n) ss))
edges_meet n [] = tt
edges_meet n (s ∷ ss) = (refl, (refl, (refl, (refl, (refl, (refl, (refl, (refl, (refl, (refl, edges_meet n ss))))))))))

pub edge_count : (n : ℕ) → length (flat_map (edge_items_of n) (squares n)) ≡ 2 * (n * n)
edge_count n = length_chunks (edge_items_of n) 2 (squares n) (λ s h. refl) ∙ ap (λ m. 2 * m) (length_squares n)

pub edges_fit : (n : ℕ) → 0 < n → IsRecordOf edges (map whole (edge_record n))
edges_fit n some =
    let turned : 2 * n * n ≡ 2 * (n * n) = mul_assoc 2 n n in
    let count : length (flat_map (edge_items_of n) (squares n)) ≡ 2 * n * n = edge_count n ∙ sym turned in
    let many : 0 < length (flat_map (edge_items_of n) (squares n)) = omega (arith, edge_count n, some_squares n some) in
    subst (λ items. MeetsAll (due edges items) (map whole (edge_record n))) (sym (edge_items n)) ((ap whole (sym count), many), edges_meet n (squares n))

pub face_fits : (n : ℕ) (s : ℕ × ℕ) → IsRecordOf face (map whole (face_record n s))
face_fits n s = (refl, ((refl, omega arith), (refl, (refl, tt))))

pub loop_fits : (n : ℕ) (s : ℕ × ℕ) → IsRecordOf «loop» (map whole (loop_record n s))
loop_fits n s = (
  (refl, omega arith),
  (
    refl,
    (
      refl,
      (
        refl,
        (
          refl,
          (inl refl, (refl, (refl, (refl, (refl, (inl refl, (refl, (refl, (refl, (refl, (inl refl, (refl, (refl, (refl, (refl, (inl refl, tt)))))))))))))))),
        ),
      ),
    ),
  ),
)
