-- How many edges and vertices the solid of a sample has.
use Rattle.std.specs.Prelude.{◌≡◌, ℕ, ◌+◌, ◌-◌, ◌*◌, ◌/◌, ◌%◌, ◌<◌, ◌≤◌, Bool, true, false, not, cond, pos, List, [], ◌∷◌, length, map, flat_map, filter}
use Rattle.std.proofs.Common.{refl, sym, ◌∙◌, ap, subst, arith, inl, inr}
use Rattle.std.proofs.Math.Nat.{mul_assoc}
use Rattle.std.proofs.lemmas.Bool.{false≢true}
use Rattle.std.proofs.lemmas.Nat.{mul-add-lt}
use Rattle.std.proofs.lemmas.List.{length-map, append-nil}
use Rattle.std.proofs.lemmas.List.Elements.{All-contains, filter_passes}
use Rattle.brep_walk.specs.SolidOf.{all_tuples, edge_named, vertices_named, edge_keys, vertex_keys, solid_of}
use Rattle.brep_numbering.proofs.SameKeys.{vertex_itself, vertex_sound}
use Rattle.brep_numbering.proofs.SameKeys.{edge_itself, edge_sound}
use Rattle.solid_data.specs.Ring.{distinct, numbers_from}
use Rattle.solid_data.specs.SolidData.{same_edge, same_vertex}
use Rattle.solid_data.specs.declared.solid.EdgeKey.{EdgeKey}
use Rattle.solid_data.specs.declared.solid.Shell.{Shell}
use Rattle.solid_data.specs.declared.solid.VertexKey.{VertexKey}
use Rattle.solid_data.proofs.Members.{Has, NoRepeat, no_longer, rises_none, has_map, map_has, Contains-from_Has}
use Rattle.solid_data.proofs.Keys.{from_filter, to_distinct, from_distinct}
use Rattle.solid_data.proofs.Occurring.{numbers_have, numbers_rise, length-numbers, number_below}
use Rattle.sample_solids.specs.Sample.{sample}
use Rattle.sample_solids.proofs.Round.{next_below}
use Rattle.sample_solids.proofs.Mesh.{Side, near, right, far, left, vertex, edge_of}
use Rattle.sample_solids.proofs.Keys.{key_of, key_is, number_listed, point_key, point_is, place_listed, edges_many}
use Rattle.sample_solids.proofs.Rows.{the_solid, the_shell, shells_of, faces_many}

-- ---- keys without repeats have different numbers

filtered_apart : {A : Type 0} (g : A → ℕ) (p : A → Bool) (xs : List A) → NoRepeat (map g xs) → NoRepeat (map g (filter p xs))
filtered_apart g p [] none = tt
filtered_apart g p (x ∷ xs) none = by_test (p x) (filtered_apart g p xs none.1)
  where
    by_test : (b : Bool) → NoRepeat (map g (filter p xs)) → NoRepeat (map g (cond b (x ∷ filter p xs) (filter p xs)))
    by_test true rest = (
      (λ h. let k = has_map g (filter p xs) (g x) h in none.0 (subst (Has (map g xs)) k.2 (map_has g xs k.0 (from_filter p xs k.0 k.1)))),
      rest,
    )
    by_test false rest = rest

apart : {A : Type 0} (same : A → A → Bool) → ((a : A) → same a a ≡ true) → (g : A → ℕ) (xs : List A) → ((a b : A) → Has xs a → Has xs b → g a ≡ g b → a ≡ b)
    → NoRepeat (map g (distinct same xs))
apart same itself g [] tell = tt
apart same itself g (x ∷ xs) tell = (
  (λ h. let k = has_map g (filter (λ y. not (same x y)) (distinct same xs)) (g x) h in
      let listed : Has (x ∷ xs) k.0 = inr (from_distinct same xs k.0 (from_filter (λ y. not (same x y)) (distinct same xs) k.0 k.1)) in
      let one : k.0 ≡ x = tell k.0 x listed (inl refl) k.2 in
      let alike : same x k.0 ≡ true = ap (same x) one ∙ itself x in
      let apart : not (same x k.0) ≡ true = All-contains (λ y. not (same x y) ≡ true) (filter (λ y. not (same x y)) (distinct same xs)) k.0
      (filter_passes (λ y. not (same x y)) (distinct same xs)) (Contains-from_Has (filter (λ y. not (same x y)) (distinct same xs)) k.0 k.1) in
      false≢true (sym (ap not alike) ∙ apart)),
  filtered_apart g (λ y. not (same x y)) (distinct same xs) (apart same itself g xs (λ a b h m. tell a b (inr h) (inr m))),
)

-- where the numbers of the keys are those from 1 to m, there are m keys
counted : {A : Type 0} (g : A → ℕ) (keys : List A) (m : ℕ) → NoRepeat (map g keys) → ((a : A) → Has keys a → (1 ≤ g a) × (g a ≤ m))
    → ((k : ℕ) → 1 ≤ k → k ≤ m → Has (map g keys) k) → length keys ≡ m
counted g keys m none within all =
    let low : length (map g keys) ≤ length (numbers_from 1 m) = no_longer (map g keys) (numbers_from 1 m) none (λ k h.
    let a = has_map g keys k h in
    let b = within a.0 a.1 in
    let e : 1 + (k - 1) ≡ k = omega (arith, b, a.2) in
    subst (Has (numbers_from 1 m)) e (numbers_have 1 m (k - 1) (omega (arith, b, a.2)))) in
    let high : length (numbers_from 1 m) ≤ length (map g keys) = no_longer (numbers_from 1 m) (map g keys) (rises_none (numbers_from 1 m) (numbers_rise 1 m))
    (λ k h.
    let b = number_below 1 m k h in
    all k b.0 (omega (arith, b.1))) in
    omega (arith, low, high, length-numbers 1 m, length-map keys g)

-- ---- the edges

pub edge_range : (n i j : ℕ) (s : Side) → i < n → j < n → (1 ≤ edge_of n i j s) × (edge_of n i j s ≤ 2 * (n * n))
edge_range n i j near li lj = let a = mul-add-lt i n j n li lj in (omega arith, omega (arith, a))
edge_range n i j right li lj = let a = mul-add-lt i n ((j + 1) % n) n li (next_below n j (omega (arith, lj))) in (omega arith, omega (arith, a))
edge_range n i j far li lj = let a = mul-add-lt ((i + 1) % n) n j n (next_below n i (omega (arith, li))) lj in (omega arith, omega (arith, a))
edge_range n i j left li lj = let a = mul-add-lt i n j n li lj in (omega arith, omega (arith, a))

key_index : (n : ℕ) (k : EdgeKey) → Has (edge_keys (sample n) (pos 1)) k → key_of k.index ≡ k
key_index n k h = let s = key_is n k h in ap (λ (q : EdgeKey). key_of q.index) (sym s.5) ∙ s.5

edges_apart : (n : ℕ) → NoRepeat (map (λ (k : EdgeKey). k.index) (edge_keys (sample n) (pos 1)))
edges_apart n = apart same_edge edge_itself (λ (k : EdgeKey). k.index) (flat_map edge_named (all_tuples (sample n) (pos 1))) (λ a b h m e.
    let x = to_distinct same_edge edge_sound (flat_map edge_named (all_tuples (sample n) (pos 1))) a h in
    let y = to_distinct same_edge edge_sound (flat_map edge_named (all_tuples (sample n) (pos 1))) b m in
    sym (key_index n a x) ∙ (ap key_of e ∙ key_index n b y))

edge_keys_many : (n : ℕ) → 0 < n → length (edge_keys (sample n) (pos 1)) ≡ 2 * (n * n)
edge_keys_many n some = counted (λ (k : EdgeKey). k.index) (edge_keys (sample n) (pos 1)) (2 * (n * n)) (edges_apart n)
    (λ k h. let s = key_is n k h in let r = edge_range n s.0 s.1 s.2 s.3 s.4 in let e : edge_of n s.0 s.1 s.2 ≡ k.index = ap (λ (q : EdgeKey). q.index) s.5
    in (omega (arith, r, e), omega (arith, r, e)))
    (λ k low high.
    let a : ℕ = (k - 1) / 2 in
    let b : ℕ = 1 + (k - 1) % 2 in
    let e : 2 * a + b ≡ k = omega (arith, low) in
    subst (Has (map (λ (q : EdgeKey). q.index) (edge_keys (sample n) (pos 1)))) e
    (map_has (λ (q : EdgeKey). q.index) (edge_keys (sample n) (pos 1)) (key_of (2 * a + b))
    (number_listed n a b some (omega (arith, low, high)) (omega arith) (omega arith))))

-- The solid has two edges for each square,
pub edge_number : (n : ℕ) → 0 < n → length (the_solid n).edges ≡ 2 * n * n
edge_number n some = edges_many n ∙ (edge_keys_many n some ∙ sym (mul_assoc 2 n n))

-- ---- the vertices

point_index : (n : ℕ) (k : VertexKey) → Has (vertex_keys (sample n) (pos 1)) k → point_key k.index ≡ k
point_index n k h = let s = point_is n k h in ap (λ (q : VertexKey). point_key q.index) (sym s.4) ∙ s.4

points_apart : (n : ℕ) → NoRepeat (map (λ (k : VertexKey). k.index) (vertex_keys (sample n) (pos 1)))
points_apart n = apart same_vertex vertex_itself (λ (k : VertexKey). k.index) (flat_map (vertices_named (sample n)) (all_tuples (sample n) (pos 1)))
    (λ a b h m e.
    let x = to_distinct same_vertex vertex_sound (flat_map (vertices_named (sample n)) (all_tuples (sample n) (pos 1))) a h in
    let y = to_distinct same_vertex vertex_sound (flat_map (vertices_named (sample n)) (all_tuples (sample n) (pos 1))) b m in
    sym (point_index n a x) ∙ (ap point_key e ∙ point_index n b y))

vertex_keys_many : (n : ℕ) → 0 < n → length (vertex_keys (sample n) (pos 1)) ≡ n * n
vertex_keys_many n some = counted (λ (k : VertexKey). k.index) (vertex_keys (sample n) (pos 1)) (n * n) (points_apart n)
    (λ k h. let s = point_is n k h in let r = mul-add-lt s.0 n s.1 n s.2 s.3 in let e : vertex n s.0 s.1 ≡ k.index = ap (λ (q : VertexKey). q.index) s.4
    in (omega (arith, r, e), omega (arith, r, e)))
    (λ k low high.
    let e : k - 1 + 1 ≡ k = omega (arith, low) in
    subst (Has (map (λ (q : VertexKey). q.index) (vertex_keys (sample n) (pos 1)))) e
    (map_has (λ (q : VertexKey). q.index) (vertex_keys (sample n) (pos 1)) (point_key (k - 1 + 1)) (place_listed n (k - 1) some (omega (arith, low, high)))))

-- a vertex for each square,
pub vertex_number : (n : ℕ) → 0 < n → length (the_solid n).vertices ≡ n * n
unfolding solid_of
vertex_number n some = vertex_keys_many n some

-- and a face for each square.
pub face_number : (n : ℕ) → length (flat_map (λ (h : Shell). h.faces) (the_solid n).shells) ≡ n * n
face_number n = ap (λ hs. length (flat_map (λ (h : Shell). h.faces) hs)) (shells_of n) ∙ (ap (λ cs. length cs) (append-nil (the_shell n).faces) ∙ faces_many n)
