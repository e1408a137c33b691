-- The edges and the uses that a sample's records tell.
use Rattle.std.specs.Prelude.{◌≡◌, ℕ, ◌+◌, ◌-◌, ◌*◌, ◌%◌, ◌<◌, true, false, ℤ, pos, List, [], ◌∷◌, ◌++◌, map, flat_map, Some, slice_get}
use Rattle.std.proofs.Common.{refl, ◌∙◌, ap, arith, inl, inr}
use Rattle.std.proofs.Math.Nat.{mod-eq_of_lt}
use Rattle.std.proofs.lemmas.List.{append-nil}
use Rattle.iges_params.specs.Contents.{Contents}
use Rattle.iges_params.specs.Named.{named, record_values}
use Rattle.brep_lists.specs.Record.{SolidItems, FaceItems, LoopTuple, items_of}
use Rattle.brep_lists.specs.declared.entity_kind.EntityKind.{EntityKind}
use Rattle.brep_lists.specs.declared.entity_kind.EntityKind.TheVariants.{Solid as solid, Shell as shell, Face as face, Loop as «loop», EdgeList as edges}
use Rattle.brep_lists.specs.declared.entity_kind.EntityKind.TheVariants.{VertexList as vertices}
use Rattle.brep_walk.specs.Places.{told, shells, faces, loops, tuples, edge_at, numbers}
use Rattle.brep_walk.specs.SolidOf.{all_tuples}
use Rattle.solid_data.proofs.Members.{Has}
use Rattle.sample_solids.specs.Sample.{squares, square, vertex_index, across_index, up_index, face_number, entry, shell_record, vertex_record, edge_record}
use Rattle.sample_solids.specs.Sample.{face_record, loop_record, sample}
use Rattle.sample_solids.proofs.Squares.{get_chunk, squares_get, squares_below, square_small}
use Rattle.sample_solids.proofs.Growing.{AnEntry}
use Rattle.sample_solids.proofs.Round.{next}
use Rattle.sample_solids.proofs.Mesh.{Side, near, right, far, left, is_along, vertex, across, up, edge_of}
use Rattle.sample_solids.proofs.Records.{solid_named, shell_named, vertices_named, edges_named, face_named, loop_named, face_item, shell_items, vertex_item}
use Rattle.sample_solids.proofs.Records.{vertex_items, edge_tuple, edge_items_of, edge_items, use_tuple, loop_tuples}

-- ---- indices, where i and j are below n

square_next : (n i j : ℕ) → i < n → square n i (j + 1) ≡ i * n + next n j
square_next n i j li = ap (λ k. k * n + (j + 1) % n) (mod-eq_of_lt li)

next_square : (n i j : ℕ) → j < n → square n (i + 1) j ≡ next n i * n + j
next_square n i j lj = ap (λ k. (i + 1) % n * n + k) (mod-eq_of_lt lj)

-- the tuple of a side
abbrev pub side_tuple : ℕ → ℕ → ℕ → Side → LoopTuple
side_tuple n i j s = use_tuple (edge_of n i j s) (is_along s)

abbrev pub square_tuples : ℕ → ℕ × ℕ → List LoopTuple
square_tuples n s = side_tuple n s.0 s.1 near ∷ side_tuple n s.0 s.1 right ∷ side_tuple n s.0 s.1 far ∷ side_tuple n s.0 s.1 left ∷ []

four_tuples : (a b c d x y z w : ℕ) → a ≡ x → b ≡ y → c ≡ z → d ≡ w
    → ◌≡◌ {A = List LoopTuple} (use_tuple a true ∷ use_tuple b true ∷ use_tuple c false ∷ use_tuple d false ∷ [])
    (use_tuple x true ∷ use_tuple y true ∷ use_tuple z false ∷ use_tuple w false ∷ [])
four_tuples a b c d x y z w e f g h = λ t. use_tuple (e t) true ∷ use_tuple (f t) true ∷ use_tuple (g t) false ∷ use_tuple (h t) false ∷ []

tuples_same : (n i j : ℕ) → i < n → j < n → loop_tuples n (i, j) ≡ square_tuples n (i, j)
tuples_same n i j li lj =
    let own = square_small n i j li lj in
    four_tuples (across_index n i j) (up_index n i (j + 1)) (across_index n (i + 1) j) (up_index n i j)
    (across n i j) (up n i (next n j)) (across n (next n i) j) (up n i j)
    (ap (λ k. 2 * k + 1) own) (ap (λ k. 2 * k + 2) (square_next n i j li)) (ap (λ k. 2 * k + 1) (next_square n i j lj)) (ap (λ k. 2 * k + 2) own)

-- ---- what the records tell

told_at : (kind : EntityKind) (f : Contents) (z : ℤ) (r : AnEntry) → named f z ≡ Some r → told kind f z ≡ items_of kind r.1
told_at kind f z r e = ap (λ o. items_of kind (record_values o)) e

pub shells_are : (n : ℕ) → shells (sample n) (pos 1) ≡ (pos 3, true) ∷ []
shells_are n = ap (λ (items : SolidItems). items.outer ∷ items.voids) (told_at solid (sample n) (pos 1) (entry 186 0 (3 ∷ 1 ∷ 0 ∷ [])) (solid_named n))

pub faces_are : (n : ℕ) → faces (sample n) (pos 3) ≡ map (face_item n) (squares n)
faces_are n = told_at shell (sample n) (pos 3) (entry 514 1 (shell_record n)) (shell_named n) ∙ shell_items n

pub face_told : (n i j : ℕ) → i < n → j < n → told face (sample n) (pos (face_number n i j))
    ≡ record { surface = pos 11; outer = true; loops = pos (face_number n i j + 2) ∷ [] }
face_told n i j li lj = told_at face (sample n) (pos (face_number n i j)) (entry 510 1 (face_record n (i, j))) (face_named n i j li lj)

pub loops_are : (n i j : ℕ) → i < n → j < n → loops (sample n) (pos (face_number n i j)) ≡ pos (face_number n i j + 2) ∷ []
loops_are n i j li lj = ap (λ (items : FaceItems). items.loops) (face_told n i j li lj)

pub tuples_are : (n i j : ℕ) → i < n → j < n → tuples (sample n) (pos (face_number n i j + 2)) ≡ square_tuples n (i, j)
tuples_are n i j li lj =
    told_at «loop» (sample n) (pos (face_number n i j + 2)) (entry 508 1 (loop_record n (i, j))) (loop_named n i j li lj) ∙ tuples_same n i j li lj

pub vertices_told : (n : ℕ) → told vertices (sample n) (pos 5) ≡ map vertex_item (squares n)
vertices_told n = told_at vertices (sample n) (pos 5) (entry 502 1 (vertex_record n)) (vertices_named n) ∙ vertex_items n

pub edges_told : (n : ℕ) → told edges (sample n) (pos 7) ≡ flat_map (edge_items_of n) (squares n)
edges_told n = told_at edges (sample n) (pos 7) (entry 504 1 (edge_record n)) (edges_named n) ∙ edge_items n

tuples_of : (n : ℕ) (ss : List (ℕ × ℕ)) → ((s : ℕ × ℕ) → Has ss s → (s.0 < n) × (s.1 < n))
    → flat_map (tuples (sample n)) (flat_map (loops (sample n)) (numbers (map (face_item n) ss))) ≡ flat_map (square_tuples n) ss
tuples_of n [] below = refl
tuples_of n (s ∷ ss) below =
    let f : Contents = sample n in
    let here = below s (inl refl) in
    ap (λ ls. flat_map (tuples f) (ls ++ flat_map (loops f) (numbers (map (face_item n) ss)))) (loops_are n s.0 s.1 here.0 here.1)
    ∙ (ap (λ ts. ts ++ flat_map (tuples f) (flat_map (loops f) (numbers (map (face_item n) ss)))) (tuples_are n s.0 s.1 here.0 here.1)
    ∙ ap (λ ts. square_tuples n s ++ ts) (tuples_of n ss (λ t h. below t (inr h))))

-- The tuples of all loops are those of the sides of all squares.
pub all_tuples_are : (n : ℕ) → all_tuples (sample n) (pos 1) ≡ flat_map (square_tuples n) (squares n)
all_tuples_are n =
    let f : Contents = sample n in
    ap (λ hs. flat_map (tuples f) (flat_map (loops f) (flat_map (λ s. numbers (faces f s)) (numbers hs)))) (shells_are n)
    ∙ (ap (λ cs. flat_map (tuples f) (flat_map (loops f) cs)) (append-nil (numbers (faces f (pos 3))))
    ∙ (ap (λ cs. flat_map (tuples f) (flat_map (loops f) (numbers cs))) (faces_are n) ∙ tuples_of n (squares n) (squares_below n)))

-- ---- the edges

edge_got : (n i j r m : ℕ) → i < n → j < n → r < 2 → m - 1 ≡ 2 * (i * n + j) + r → edge_at (sample n) (pos 7) m ≡ slice_get (edge_items_of n (i, j)) r
edge_got n i j r m li lj lt e =
    ap (λ es. slice_get es (m - 1)) (edges_told n)
    ∙ get_chunk (edge_items_of n) 2 (squares n) (λ s h. refl) (i * n + j) r (m - 1) (i, j) (squares_get n i j (i * n + j) li lj refl) lt e

tuple_same : (a b x y : ℕ) → a ≡ x → b ≡ y → Some (edge_tuple a b) ≡ Some (edge_tuple x y)
tuple_same a b x y e f = λ t. Some (edge_tuple (e t) (f t))

pub across_at : (n i j : ℕ) → i < n → j < n → edge_at (sample n) (pos 7) (across n i j) ≡ Some (edge_tuple (vertex n i j) (vertex n i (next n j)))
across_at n i j li lj =
    edge_got n i j 0 (across n i j) li lj (omega arith) (omega arith)
    ∙ tuple_same (vertex_index n i j) (vertex_index n i (j + 1)) (vertex n i j) (vertex n i (next n j)) (ap (λ k. k + 1) (square_small n i j li lj))
    (ap (λ k. k + 1) (square_next n i j li))

pub up_at : (n i j : ℕ) → i < n → j < n → edge_at (sample n) (pos 7) (up n i j) ≡ Some (edge_tuple (vertex n i j) (vertex n (next n i) j))
up_at n i j li lj =
    edge_got n i j 1 (up n i j) li lj (omega arith) (omega arith)
    ∙ tuple_same (vertex_index n i j) (vertex_index n (i + 1) j) (vertex n i j) (vertex n (next n i) j) (ap (λ k. k + 1) (square_small n i j li lj))
    (ap (λ k. k + 1) (next_square n i j lj))
