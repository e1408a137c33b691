-- The places of a sample's solid hold.
use Rattle.std.specs.Prelude.{◌≡◌, ℕ, zero, suc, ◌+◌, ◌*◌, ◌/◌, ◌%◌, ◌<◌, Bool, true, false, ℤ, pos, nat_abs, List, [], ◌∷◌, ◌++◌, length, map, flat_map, take}
use Rattle.std.specs.Prelude.{Contains, All, Option, Some, IsSome, IsSomeAnd, slice_get}
use Rattle.std.proofs.Common.{refl, sym, ◌∙◌, ap, subst, arith, inl, inr, append_assoc}
use Rattle.std.proofs.lemmas.Nat.{mul-add-lt, div-add-mod', div_below}
use Rattle.std.proofs.Math.Nat.{mod-lt}
use Rattle.std.proofs.lemmas.List.{length-map, append-nil}
use Rattle.std.proofs.lemmas.List.Elements.{All-nil}
use Rattle.std.proofs.lemmas.Option.{none-some, same_Some, slice_get_within}
use Rattle.iges_params.specs.Contents.{Contents}
use Rattle.iges_params.specs.Named.{named}
use Rattle.brep_lists.specs.Record.{type_number, HasForm, FaceItems, LoopTuple, IsRecordOf}
use Rattle.brep_lists.specs.declared.entity_kind.EntityKind.{EntityKind}
use Rattle.brep_lists.specs.declared.entity_kind.EntityKind.TheVariants.{Solid as solid, Shell as shell, Face as face, Loop as «loop», EdgeList as edges}
use Rattle.brep_lists.specs.declared.entity_kind.EntityKind.TheVariants.{VertexList as vertices}
use Rattle.brep_walk.specs.Places.{told, shells, faces, loops, tuples, edge_at, numbers, NamesGeometry, IsIndex, record_places, item_places, edge_places}
use Rattle.brep_walk.specs.Places.{used_places, tuple_places, loop_places, face_places, shell_places, places}
use Rattle.solid_data.specs.Obligations.{Obligation, obligation, entry_number, AllHold, after_each}
use Rattle.solid_data.specs.declared.verdict.Rule.TheVariants.{BadIndex, BadGeometry, Twice}
use Rattle.solid_data.proofs.Members.{Has, Has-from_Contains, from_flat_map, has_map, has_get}
use Rattle.solid_data.proofs.ObligationLemmas.{AllHold-append}
use Rattle.sample_solids.specs.Sample.{squares, face_number, entry, shell_record, vertex_record, edge_record, face_record, loop_record, sample}
use Rattle.sample_solids.proofs.Squares.{length_squares, squares_at, square_small, only_one}
use Rattle.sample_solids.proofs.Growing.{AnEntry}
use Rattle.sample_solids.proofs.Mesh.{Side, vertex, edge_of}
use Rattle.sample_solids.proofs.Records.{solid_named, shell_named, vertices_named, edges_named, line_named, plane_named, face_named, loop_named, solid_fits}
use Rattle.sample_solids.proofs.Records.{shell_fits, vertices_fit, edges_fit, face_fits, loop_fits, face_item, vertex_item, edge_count}
use Rattle.sample_solids.proofs.Tuples.{side_tuple, square_tuples, shells_are, faces_are, face_told, loops_are, tuples_are, vertices_told, edges_told}
use Rattle.sample_solids.proofs.Keys.{edge_from, edge_to, side_at, end_is, side_of}
use Rattle.sample_solids.proofs.Counts.{edge_range}

-- ---- obligations of each item

-- what holds of each item, with the items before its place, holds of all
each_holds : {A : Type 0} (g : List A → A → List Obligation) (before xs : List A)
    → ((k : ℕ) (x : A) → slice_get xs k ≡ Some x → AllHold (g (before ++ take k xs) x)) → AllHold (after_each g before xs)
each_holds g before [] hold = tt
each_holds g before (x ∷ xs) hold =
    AllHold-append (g before x) (after_each g (before ++ x ∷ []) xs)
    (subst (λ b. AllHold (g b x)) (append-nil before) (hold zero x refl))
    (each_holds g (before ++ x ∷ []) xs (λ k y at. subst (λ b. AllHold (g b y)) (sym (append_assoc before (x ∷ []) (take k xs))) (hold (suc k) y at)))

-- what stands before a place
before_place : {A : Type 0} (xs : List A) (k : ℕ) (x : A) → Has (take k xs) x → (m : ℕ) × (m < k) × (slice_get xs m ≡ Some x)
before_place [] zero x h = absurd h
before_place [] (suc k) x h = absurd h
before_place (y ∷ xs) zero x h = absurd h
before_place (y ∷ xs) (suc k) x (inl e) = (zero, omega arith, ap Some e)
before_place (y ∷ xs) (suc k) x (inr h) = let m = before_place xs k x h in (suc m.0, omega (arith, m.1), m.2)

get_of_map : {A B : Type 0} (g : A → B) (xs : List A) (k : ℕ) (y : B) → slice_get (map g xs) k ≡ Some y → (x : A) × (slice_get xs k ≡ Some x) × (g x ≡ y)
get_of_map g [] k y at = absurd (none-some y at)
get_of_map g (x ∷ xs) zero y at = (x, refl, same_Some (g x) y at)
get_of_map g (x ∷ xs) (suc k) y at = get_of_map g xs k y at

-- ---- records

record_holds : (f : Contents) (entity : ℤ) (place : ℕ) (kind : EntityKind) (z : ℤ) (r : AnEntry) → named f z ≡ Some r → r.0.kind ≡ type_number kind
    → HasForm kind r.0.form → IsRecordOf kind r.1
    → AllHold (record_places f entity place kind z)
record_holds f entity place kind z r is type form fits = (
  subst (λ (o : Option AnEntry). IsSome o) (sym is) refl,
  (
    subst (λ (o : Option AnEntry). IsSomeAnd o (λ e. (e.0.kind ≡ type_number kind) × HasForm kind e.0.form)) (sym is) (type, form),
    (subst (λ (o : Option AnEntry). IsSomeAnd o (λ e. IsRecordOf kind e.1)) (sym is) fits, tt),
  ),
)

item_holds : (f : Contents) (entity : ℤ) (place : ℕ) (kind : EntityKind) (z index : ℤ) (count : ℕ) → AllHold (record_places f entity place kind z)
    → IsIndex index count → AllHold (item_places f entity place kind z index count)
item_holds f entity place kind z index count holds within =
    AllHold-append (record_places f entity place kind z) (obligation BadIndex (entry_number entity) place (IsIndex index count) ∷ []) holds (within, tt)

names_geometry : (f : Contents) (z : ℤ) (r : AnEntry) → named f z ≡ Some r → ((kind : EntityKind) → ¬ (r.0.kind ≡ type_number kind)) → NamesGeometry f z
names_geometry f z r is other = subst (λ (o : Option AnEntry). IsSomeAnd o (λ e. (kind : EntityKind) → ¬ (e.0.kind ≡ type_number kind))) (sym is) other

line_kind : (kind : EntityKind) → ¬ (pos 110 ≡ type_number kind)
line_kind solid e = let h : ◌≡◌ {A = ℕ} 110 186 = ap nat_abs e in omega (arith, h)
line_kind shell e = let h : ◌≡◌ {A = ℕ} 110 514 = ap nat_abs e in omega (arith, h)
line_kind face e = let h : ◌≡◌ {A = ℕ} 110 510 = ap nat_abs e in omega (arith, h)
line_kind «loop» e = let h : ◌≡◌ {A = ℕ} 110 508 = ap nat_abs e in omega (arith, h)
line_kind edges e = let h : ◌≡◌ {A = ℕ} 110 504 = ap nat_abs e in omega (arith, h)
line_kind vertices e = let h : ◌≡◌ {A = ℕ} 110 502 = ap nat_abs e in omega (arith, h)

plane_kind : (kind : EntityKind) → ¬ (pos 108 ≡ type_number kind)
plane_kind solid e = let h : ◌≡◌ {A = ℕ} 108 186 = ap nat_abs e in omega (arith, h)
plane_kind shell e = let h : ◌≡◌ {A = ℕ} 108 514 = ap nat_abs e in omega (arith, h)
plane_kind face e = let h : ◌≡◌ {A = ℕ} 108 510 = ap nat_abs e in omega (arith, h)
plane_kind «loop» e = let h : ◌≡◌ {A = ℕ} 108 508 = ap nat_abs e in omega (arith, h)
plane_kind edges e = let h : ◌≡◌ {A = ℕ} 108 504 = ap nat_abs e in omega (arith, h)
plane_kind vertices e = let h : ◌≡◌ {A = ℕ} 108 502 = ap nat_abs e in omega (arith, h)

line_is : (n : ℕ) → NamesGeometry (sample n) (pos 9)
line_is n = names_geometry (sample n) (pos 9) (entry 110 0 (0 ∷ 0 ∷ 0 ∷ 1 ∷ 0 ∷ 0 ∷ [])) (line_named n) line_kind

plane_is : (n : ℕ) → NamesGeometry (sample n) (pos 11)
plane_is n = names_geometry (sample n) (pos 11) (entry 108 0 (0 ∷ 0 ∷ 1 ∷ 0 ∷ 0 ∷ 0 ∷ 0 ∷ 0 ∷ 0 ∷ [])) (plane_named n) plane_kind

vertices_hold : (n : ℕ) → 0 < n → (entity : ℤ) (place : ℕ) → AllHold (record_places (sample n) entity place vertices (pos 5))
vertices_hold n some entity place = record_holds (sample n) entity place vertices (pos 5) (entry 502 1 (vertex_record n)) (vertices_named n) refl (inr refl)
    (vertices_fit n some)

edges_hold : (n : ℕ) → 0 < n → (entity : ℤ) (place : ℕ) → AllHold (record_places (sample n) entity place edges (pos 7))
edges_hold n some entity place = record_holds (sample n) entity place edges (pos 7) (entry 504 1 (edge_record n)) (edges_named n) refl (inr refl)
    (edges_fit n some)

-- ---- a side

vertices_told_many : (n : ℕ) → length (told vertices (sample n) (pos 5)) ≡ n * n
vertices_told_many n = ap (λ vs. length vs) (vertices_told n) ∙ (length-map (squares n) vertex_item ∙ length_squares n)

edges_told_many : (n : ℕ) → length (told edges (sample n) (pos 7)) ≡ 2 * (n * n)
edges_told_many n = ap (λ es. length es) (edges_told n) ∙ edge_count n

vertex_within : (n a b k : ℕ) → a < n → b < n → vertex n a b ≡ k → IsIndex (pos k) (length (told vertices (sample n) (pos 5)))
vertex_within n a b k la lb e = let lt = mul-add-lt a n b n la lb in (k, refl, omega (arith, e), omega (arith, lt, e, vertices_told_many n))

-- one end of the edge of a side
end_holds : (n i j : ℕ) (s : Side) → i < n → j < n → (entity : ℤ) (place k : ℕ) → Has (edge_from n i j s ∷ edge_to n i j s ∷ []) k
    → AllHold (item_places (sample n) entity place vertices (pos 5) (pos k) (length (told vertices (sample n) (pos 5))))
end_holds n i j s li lj entity place k h =
    let v = end_is (λ m. m) n i j s li lj k h in
    item_holds (sample n) entity place vertices (pos 5) (pos k) (length (told vertices (sample n) (pos 5))) (vertices_hold n (omega (arith, li)) entity place)
    (vertex_within n v.0 v.1 k v.2 v.3 v.4)

edge_holds : (n i j : ℕ) (s : Side) → i < n → j < n → (m : ℕ) → AllHold (edge_places (sample n) (pos 7) m (edge_at (sample n) (pos 7) (edge_of n i j s)))
edge_holds n i j s li lj m =
    let f : Contents = sample n in
    let from : ℕ = edge_from n i j s in
    let to : ℕ = edge_to n i j s in
    let count : ℕ = length (told vertices f (pos 5)) in
    subst (λ o. AllHold (edge_places f (pos 7) m o)) (sym (side_at n i j s li lj)) (
      line_is n,
      AllHold-append (item_places f (pos 7) m vertices (pos 5) (pos from) count) (item_places f (pos 7) m vertices (pos 5) (pos to) count)
          (end_holds n i j s li lj (pos 7) m from (inl refl)) (end_holds n i j s li lj (pos 7) m to (inr (inl refl))),
    )

side_holds : (n i j : ℕ) (s : Side) → i < n → j < n → (l : ℤ) (before : List LoopTuple) → AllHold (tuple_places (sample n) l before (side_tuple n i j s))
unfolding tuple_places
side_holds n i j s li lj l before =
    let f : Contents = sample n in
    let k : ℕ = length before + 1 in
    let e : ℕ = edge_of n i j s in
    let range = edge_range n i j s li lj in
    AllHold-append (used_places f l k (pos 7) (pos e) false) (obligation BadGeometry (entry_number l) k (All (λ (c : Bool × ℤ). NamesGeometry f c.1) []) ∷ [])
    (AllHold-append (item_places f l k edges (pos 7) (pos e) (length (told edges f (pos 7)))) (edge_places f (pos 7) e (edge_at f (pos 7) e))
    (item_holds f l k edges (pos 7) (pos e) (length (told edges f (pos 7))) (edges_hold n (omega (arith, li)) l k)
    (e, refl, range.0, omega (arith, range.1, edges_told_many n)))
    (edge_holds n i j s li lj e))
    (All-nil (λ (c : Bool × ℤ). NamesGeometry f c.1), tt)

-- ---- a loop

loop_holds : (n i j : ℕ) → i < n → j < n → (used before : List ℤ) → ¬ Contains (used ++ before) (pos (face_number n i j + 2))
    → AllHold (loop_places (sample n) (pos (face_number n i j)) used before (pos (face_number n i j + 2)))
unfolding loop_places
loop_holds n i j li lj used before fresh =
    let f : Contents = sample n in
    let c : ℤ = pos (face_number n i j) in
    let l : ℤ = pos (face_number n i j + 2) in
    let k : ℕ = length before + 1 in
    AllHold-append (record_places f c k «loop» l)
    (obligation Twice (entry_number c) k (¬ Contains (used ++ before) l) ∷ after_each (tuple_places f l) [] (tuples f l))
    (record_holds f c k «loop» l (entry 508 1 (loop_record n (i, j))) (loop_named n i j li lj) refl (inr refl) (loop_fits n (i, j))) (
      fresh,
      subst (λ ts. AllHold (after_each (tuple_places f l) [] ts)) (sym (tuples_are n i j li lj))
          (each_holds (tuple_places f l) [] (square_tuples n (i, j)) (λ m t at.
          let s = side_of (side_tuple n i j) t (has_get (square_tuples n (i, j)) m t at) in
          subst (λ u. AllHold (tuple_places f l (take m (square_tuples n (i, j))) u)) s.1 (side_holds n i j s.0 li lj l (take m (square_tuples n (i, j)))))),
    )

-- ---- a face

-- the face at a place of the shell
face_at_place : (n k : ℕ) (item : ℤ × Bool) → 0 < n → slice_get (map (face_item n) (squares n)) k ≡ Some item
    → (i j : ℕ) × (i < n) × (j < n) × (face_item n (i, j) ≡ item) × (face_number n i j ≡ 13 + 4 * k)
face_at_place n k item some at =
    let s = get_of_map (face_item n) (squares n) k item at in
    let within = slice_get_within (squares n) k s.0 s.1 in
    let lt : k < n * n = omega (arith, within, length_squares n) in
    let same : (k / n, k % n) ≡ s.0 = same_Some (k / n, k % n) s.0 (sym (squares_at n k some lt) ∙ s.1) in
    let li : k / n < n = div_below k n n some lt in
    let lj : k % n < n = mod-lt k some in
    let e : k / n * n + k % n ≡ k = div-add-mod' k n in
    (k / n, k % n, li, lj, ap (face_item n) same ∙ s.2, ap (λ m. 13 + 4 * m) (square_small n (k / n) (k % n) li lj ∙ e))

-- a face that stands before a place has a lesser number
lesser : (n k : ℕ) (c : ℤ) → 0 < n → Has (numbers (take k (map (face_item n) (squares n)))) c → (i j m : ℕ) × (i < n) × (j < n) × (pos (face_number n i j) ≡ c)
    × (face_number n i j ≡ 13 + 4 * m) × (m < k)
lesser n k c some h =
    let item = has_map (λ (x : ℤ × Bool). x.0) (take k (map (face_item n) (squares n))) c h in
    let m = before_place (map (face_item n) (squares n)) k item.0 item.1 in
    let f = face_at_place n m.0 item.0 some m.2 in
    (f.0, f.1, m.0, f.2, f.3, ap (λ (x : ℤ × Bool). x.0) f.4 ∙ item.2, f.5, m.1)

pos_same : (a b : ℕ) → pos a ≡ pos b → a ≡ b
pos_same a b e = ap nat_abs e

face_fresh : (n k i j : ℕ) → 0 < n → face_number n i j ≡ 13 + 4 * k → ¬ Contains (numbers (take k (map (face_item n) (squares n)))) (pos (face_number n i j))
face_fresh n k i j some at h =
    let x = lesser n k (pos (face_number n i j)) some (Has-from_Contains (numbers (take k (map (face_item n) (squares n)))) (pos (face_number n i j)) h) in
    let e = pos_same (face_number n x.0 x.1) (face_number n i j) x.5 in
    omega (arith, e, at, x.6, x.7)

loop_fresh : (n k i j : ℕ) → 0 < n → face_number n i j ≡ 13 + 4 * k
    → ¬ Contains (flat_map (loops (sample n)) (numbers (take k (map (face_item n) (squares n)))) ++ []) (pos (face_number n i j + 2))
loop_fresh n k i j some at h =
    let f : Contents = sample n in
    let l : ℤ = pos (face_number n i j + 2) in
    let used : List ℤ = flat_map (loops f) (numbers (take k (map (face_item n) (squares n)))) in
    let there : Has used l = subst (λ ls. Has ls l) (append-nil used) (Has-from_Contains (used ++ []) l h) in
    let c = from_flat_map (loops f) (numbers (take k (map (face_item n) (squares n)))) l there in
    let x = lesser n k c.0 some c.1 in
    let listed : Has (pos (face_number n x.0 x.1 + 2) ∷ []) l =
    subst (λ ls. Has ls l) (loops_are n x.0 x.1 x.3 x.4) (subst (λ z. Has (loops f z) l) (sym x.5) c.2) in
    let e = pos_same (face_number n x.0 x.1 + 2) (face_number n i j + 2) (only_one (pos (face_number n x.0 x.1 + 2)) l listed) in
    omega (arith, e, at, x.6, x.7)

face_holds : (n k i j : ℕ) → i < n → j < n → face_number n i j ≡ 13 + 4 * k
    → AllHold (face_places (sample n) (pos 3) [] (take k (map (face_item n) (squares n))) (face_item n (i, j)))
unfolding face_places
face_holds n k i j li lj at =
    let f : Contents = sample n in
    let some : 0 < n = omega (arith, li) in
    let c : ℤ = pos (face_number n i j) in
    let before : List (ℤ × Bool) = take k (map (face_item n) (squares n)) in
    let m : ℕ = length before + 1 in
    let used : List ℤ = flat_map (loops f) (numbers before) in
    AllHold-append (record_places f (pos 3) m face c)
    (obligation Twice 3 m (¬ Contains (numbers before) c) ∷ obligation BadGeometry (entry_number c) 0
    (let items = told face f c in NamesGeometry f items.surface) ∷ after_each (loop_places f c used) [] (loops f c))
    (record_holds f (pos 3) m face c (entry 510 1 (face_record n (i, j))) (face_named n i j li lj) refl (inr refl) (face_fits n (i, j))) (
      face_fresh n k i j some at,
      (
        subst (λ (items : FaceItems). NamesGeometry f items.surface) (sym (face_told n i j li lj)) (plane_is n),
        subst (λ ls. AllHold (after_each (loop_places f c used) [] ls)) (sym (loops_are n i j li lj))
            (AllHold-append (loop_places f c used [] (pos (face_number n i j + 2))) [] (loop_holds n i j li lj used [] (loop_fresh n k i j some at)) tt),
      ),
    )

-- ---- the shell and the solid

none_in_nothing : (z : ℤ) → ¬ Contains [] z
none_in_nothing z c = omega (arith, c.1)

shell_holds : (n : ℕ) → 0 < n → AllHold (shell_places (sample n) (pos 1) [] (pos 3, true))
unfolding shell_places
shell_holds n some =
    let f : Contents = sample n in
    AllHold-append (record_places f (pos 1) 1 shell (pos 3))
    (obligation Twice 1 1 (¬ Contains [] (pos 3)) ∷ after_each (face_places f (pos 3) []) [] (faces f (pos 3)))
    (record_holds f (pos 1) 1 shell (pos 3) (entry 514 1 (shell_record n)) (shell_named n) refl refl (shell_fits n some)) (
      none_in_nothing (pos 3),
      subst (λ cs. AllHold (after_each (face_places f (pos 3) []) [] cs)) (sym (faces_are n))
          (each_holds (face_places f (pos 3) []) [] (map (face_item n) (squares n)) (λ k item at.
          let x = face_at_place n k item some at in
          subst (λ c. AllHold (face_places f (pos 3) [] (take k (map (face_item n) (squares n))) c)) x.4 (face_holds n k x.0 x.1 x.2 x.3 x.5))),
    )

-- The places of the solid of a sample hold.
pub places_hold : (n : ℕ) → 0 < n → AllHold (places (sample n) 1)
unfolding places
places_hold n some =
    let f : Contents = sample n in
    AllHold-append (record_places f (pos 1) 0 solid (pos 1)) (after_each (shell_places f (pos 1)) [] (shells f (pos 1)))
    (record_holds f (pos 1) 0 solid (pos 1) (entry 186 0 (3 ∷ 1 ∷ 0 ∷ [])) (solid_named n) refl refl solid_fits)
    (subst (λ hs. AllHold (after_each (shell_places f (pos 1)) [] hs)) (sym (shells_are n))
    (AllHold-append (shell_places f (pos 1) [] (pos 3, true)) [] (shell_holds n some) tt))
