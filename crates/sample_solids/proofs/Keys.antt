-- The ids of a sample's edges and vertices.
use Rattle.std.specs.Prelude.{◌≡◌, ℕ, zero, suc, ◌+◌, ◌*◌, ◌/◌, ◌%◌, ◌<◌, ◌≤◌, pos, [], ◌∷◌, length, flat_map, Some, slice_get}
use Rattle.std.proofs.Common.{refl, sym, ◌∙◌, ap, subst, arith, inl, inr}
use Rattle.std.proofs.Math.Nat.{mod-lt}
use Rattle.std.proofs.lemmas.Nat.{div-add-mod', div_below}
use Rattle.brep_lists.specs.Record.{LoopTuple}
use Rattle.brep_walk.specs.Places.{edge_at}
use Rattle.brep_walk.specs.SolidOf.{edge_key, vertex_key, all_tuples, edge_named, ends_named, vertices_named, edge_keys, vertex_keys, keys_of, numbered_by}
use Rattle.brep_walk.specs.SolidOf.{edge_of as edge_of_key, solid_of}
use Rattle.brep_numbering.proofs.SameKeys.{vertex_sound, vertex_itself}
use Rattle.brep_numbering.proofs.SameKeys.{edge_sound, edge_itself}
use Rattle.solid_data.specs.Ring.{place_of}
use Rattle.solid_data.specs.SolidData.{same_edge, same_vertex}
use Rattle.solid_data.specs.declared.solid.Edge.{Edge}
use Rattle.solid_data.specs.declared.solid.EdgeKey.{EdgeKey}
use Rattle.solid_data.specs.declared.solid.VertexKey.{VertexKey}
use Rattle.solid_data.proofs.Members.{Has, has_flat_map, from_flat_map, has_get, length-singles, get_single}
use Rattle.solid_data.proofs.Keys.{to_distinct, from_distinct, at_place, one_place}
use Rattle.sample_solids.specs.Sample.{squares, sample}
use Rattle.sample_solids.proofs.Squares.{squares_get, squares_below, only_one}
use Rattle.sample_solids.proofs.Round.{next, next_below}
use Rattle.sample_solids.proofs.Mesh.{Side, near, right, far, left, vertex, edge_of}
use Rattle.sample_solids.proofs.Records.{edge_tuple}
use Rattle.sample_solids.proofs.Tuples.{side_tuple, square_tuples, all_tuples_are, across_at, up_at}

-- ---- the sides of all squares

pub square_in : (n i j : ℕ) → i < n → j < n → Has (squares n) (i, j)
square_in n i j li lj = has_get (squares n) (i * n + j) (i, j) (squares_get n i j (i * n + j) li lj refl)

side_in : (n i j : ℕ) (s : Side) → Has (square_tuples n (i, j)) (side_tuple n i j s)
side_in n i j near = inl refl
side_in n i j right = inr (inl refl)
side_in n i j far = inr (inr (inl refl))
side_in n i j left = inr (inr (inr (inl refl)))

pub tuple_listed : (n i j : ℕ) (s : Side) → i < n → j < n → Has (all_tuples (sample n) (pos 1)) (side_tuple n i j s)
tuple_listed n i j s li lj =
    subst (λ ts. Has ts (side_tuple n i j s)) (sym (all_tuples_are n))
    (has_flat_map (square_tuples n) (squares n) (i, j) (side_tuple n i j s) (square_in n i j li lj) (side_in n i j s))

-- what is listed for the four sides is that of one of them
pub side_of : {A : Type 0} (g : Side → A) (a : A) → Has (g near ∷ g right ∷ g far ∷ g left ∷ []) a → (s : Side) × (g s ≡ a)
side_of g a (inl e) = (near, e)
side_of g a (inr (inl e)) = (right, e)
side_of g a (inr (inr (inl e))) = (far, e)
side_of g a (inr (inr (inr (inl e)))) = (left, e)
side_of g a (inr (inr (inr (inr h)))) = absurd h

pub tuple_is : (n : ℕ) (t : LoopTuple) → Has (all_tuples (sample n) (pos 1)) t → (i j : ℕ) × (s : Side) × (i < n) × (j < n) × (side_tuple n i j s ≡ t)
tuple_is n t h =
    let k = from_flat_map (square_tuples n) (squares n) t (subst (λ ts. Has ts t) (all_tuples_are n) h) in
    let below = squares_below n k.0 k.1 in
    let s = side_of (side_tuple n k.0.0 k.0.1) t k.2 in
    (k.0.0, k.0.1, s.0, below.0, below.1, s.1)

-- ---- the edges

abbrev pub key_of : ℕ → EdgeKey
key_of k = edge_key (pos 7) (pos k)

abbrev pub edge_id : ℕ → ℕ → ℕ
edge_id n k = place_of same_edge (edge_keys (sample n) (pos 1)) (key_of k)

pub key_listed : (n i j : ℕ) (s : Side) → i < n → j < n → Has (edge_keys (sample n) (pos 1)) (key_of (edge_of n i j s))
key_listed n i j s li lj =
    to_distinct same_edge edge_sound (flat_map edge_named (all_tuples (sample n) (pos 1))) (key_of (edge_of n i j s))
    (has_flat_map edge_named (all_tuples (sample n) (pos 1)) (side_tuple n i j s) (key_of (edge_of n i j s)) (tuple_listed n i j s li lj) (inl refl))

pub key_is : (n : ℕ) (k : EdgeKey) → Has (edge_keys (sample n) (pos 1)) k → (i j : ℕ) × (s : Side) × (i < n) × (j < n) × (key_of (edge_of n i j s) ≡ k)
key_is n k h =
    let t = from_flat_map edge_named (all_tuples (sample n) (pos 1)) k (from_distinct same_edge (flat_map edge_named (all_tuples (sample n) (pos 1))) k h) in
    let s = tuple_is n t.0 t.1 in
    (s.0, s.1, s.2, s.3, s.4, only_one (key_of (edge_of n s.0 s.1 s.2)) k (subst (λ u. Has (edge_named u) k) (sym s.5) t.2))

-- each number of an edge is one of a square
pub number_listed : (n a k : ℕ) → 0 < n → a < n * n → 1 ≤ k → k ≤ 2 → Has (edge_keys (sample n) (pos 1)) (key_of (2 * a + k))
number_listed n a zero some lt low high = absurd (omega (arith, low))
number_listed n a (suc zero) some lt low high =
    let e : (a / n) * n + a % n ≡ a = div-add-mod' a n in
    subst (λ m. Has (edge_keys (sample n) (pos 1)) (key_of (2 * m + 1))) e (key_listed n (a / n) (a % n) near (div_below a n n some lt) (mod-lt a some))
number_listed n a (suc (suc zero)) some lt low high =
    let e : (a / n) * n + a % n ≡ a = div-add-mod' a n in
    subst (λ m. Has (edge_keys (sample n) (pos 1)) (key_of (2 * m + 2))) e (key_listed n (a / n) (a % n) left (div_below a n n some lt) (mod-lt a some))
number_listed n a (suc (suc (suc k))) some lt low high = absurd (omega (arith, high))

pub one_edge : (n a b : ℕ) → 0 < n → a < n * n → b < n * n → (k l : ℕ) → 1 ≤ k → k ≤ 2 → 1 ≤ l → l ≤ 2 → edge_id n (2 * a + k) ≡ edge_id n (2 * b + l)
    → 2 * a + k ≡ 2 * b + l
one_edge n a b some la lb k l lk hk ll hl e =
    ap (λ (q : EdgeKey). q.index)
    (one_place same_edge edge_sound edge_itself (edge_keys (sample n) (pos 1)) (key_of (2 * a + k)) (key_of (2 * b + l)) (number_listed n a k some la lk hk)
    (number_listed n b l some lb ll hl) e)

abbrev pub edge_from : ℕ → ℕ → ℕ → Side → ℕ
edge_from n i j near = vertex n i j
edge_from n i j right = vertex n i (next n j)
edge_from n i j far = vertex n (next n i) j
edge_from n i j left = vertex n i j

abbrev pub edge_to : ℕ → ℕ → ℕ → Side → ℕ
edge_to n i j near = vertex n i (next n j)
edge_to n i j right = vertex n (next n i) (next n j)
edge_to n i j far = vertex n (next n i) (next n j)
edge_to n i j left = vertex n (next n i) j

pub side_at : (n i j : ℕ) (s : Side) → i < n → j < n → edge_at (sample n) (pos 7) (edge_of n i j s) ≡ Some (edge_tuple (edge_from n i j s) (edge_to n i j s))
side_at n i j near li lj = across_at n i j li lj
side_at n i j right li lj = up_at n i (next n j) li (next_below n j (omega (arith, lj)))
side_at n i j far li lj = across_at n (next n i) j (next_below n i (omega (arith, li))) lj
side_at n i j left li lj = up_at n i j li lj

-- ---- the vertices

abbrev pub point_key : ℕ → VertexKey
point_key k = vertex_key (pos 5) (pos k)

abbrev pub point_id : ℕ → ℕ → ℕ
point_id n k = place_of same_vertex (vertex_keys (sample n) (pos 1)) (point_key k)

ends_are : (n i j : ℕ) (s : Side) → i < n → j < n → vertices_named (sample n) (side_tuple n i j s) ≡ point_key (edge_from n i j s)
    ∷ point_key (edge_to n i j s) ∷ []
ends_are n i j s li lj = ap ends_named (side_at n i j s li lj)

pub point_listed : (n i j : ℕ) → i < n → j < n → Has (vertex_keys (sample n) (pos 1)) (point_key (vertex n i j))
point_listed n i j li lj =
    to_distinct same_vertex vertex_sound (flat_map (vertices_named (sample n)) (all_tuples (sample n) (pos 1))) (point_key (vertex n i j))
    (has_flat_map (vertices_named (sample n)) (all_tuples (sample n) (pos 1)) (side_tuple n i j near) (point_key (vertex n i j)) (tuple_listed n i j near li lj)
    (subst (λ ks. Has ks (point_key (vertex n i j))) (sym (ends_are n i j near li lj)) (inl refl)))

from_is : (n i j : ℕ) (s : Side) → i < n → j < n → (a b : ℕ) × (a < n) × (b < n) × (vertex n a b ≡ edge_from n i j s)
from_is n i j near li lj = (i, j, li, lj, refl)
from_is n i j right li lj = (i, next n j, li, next_below n j (omega (arith, lj)), refl)
from_is n i j far li lj = (next n i, j, next_below n i (omega (arith, li)), lj, refl)
from_is n i j left li lj = (i, j, li, lj, refl)

to_is : (n i j : ℕ) (s : Side) → i < n → j < n → (a b : ℕ) × (a < n) × (b < n) × (vertex n a b ≡ edge_to n i j s)
to_is n i j near li lj = (i, next n j, li, next_below n j (omega (arith, lj)), refl)
to_is n i j right li lj = (next n i, next n j, next_below n i (omega (arith, li)), next_below n j (omega (arith, lj)), refl)
to_is n i j far li lj = (next n i, next n j, next_below n i (omega (arith, li)), next_below n j (omega (arith, lj)), refl)
to_is n i j left li lj = (next n i, j, next_below n i (omega (arith, li)), lj, refl)

-- what is listed at one of the ends of an edge is a vertex of the mesh
pub end_is : {A : Type 0} (g : ℕ → A) (n i j : ℕ) (s : Side) → i < n → j < n → (k : A) → Has (g (edge_from n i j s) ∷ g (edge_to n i j s) ∷ []) k
    → (a b : ℕ) × (a < n) × (b < n) × (g (vertex n a b) ≡ k)
end_is g n i j s li lj k (inl e) = let v = from_is n i j s li lj in (v.0, v.1, v.2, v.3, ap g v.4 ∙ e)
end_is g n i j s li lj k (inr (inl e)) = let v = to_is n i j s li lj in (v.0, v.1, v.2, v.3, ap g v.4 ∙ e)
end_is g n i j s li lj k (inr (inr h)) = absurd h

pub point_is : (n : ℕ) (k : VertexKey) → Has (vertex_keys (sample n) (pos 1)) k → (i j : ℕ) × (i < n) × (j < n) × (point_key (vertex n i j) ≡ k)
point_is n k h =
    let t = from_flat_map (vertices_named (sample n)) (all_tuples (sample n) (pos 1)) k
    (from_distinct same_vertex (flat_map (vertices_named (sample n)) (all_tuples (sample n) (pos 1))) k h) in
    let s = tuple_is n t.0 t.1 in
    let at_end : Has (vertices_named (sample n) (side_tuple n s.0 s.1 s.2)) k = subst (λ u. Has (vertices_named (sample n) u) k) (sym s.5) t.2 in
    end_is point_key n s.0 s.1 s.2 s.3 s.4 k (subst (λ ks. Has ks k) (ends_are n s.0 s.1 s.2 s.3 s.4) at_end)

pub place_listed : (n a : ℕ) → 0 < n → a < n * n → Has (vertex_keys (sample n) (pos 1)) (point_key (a + 1))
place_listed n a some lt =
    let e : (a / n) * n + a % n ≡ a = div-add-mod' a n in
    subst (λ m. Has (vertex_keys (sample n) (pos 1)) (point_key (m + 1))) e (point_listed n (a / n) (a % n) (div_below a n n some lt) (mod-lt a some))

pub one_point : (n a b : ℕ) → 0 < n → a < n * n → b < n * n → point_id n (a + 1) ≡ point_id n (b + 1) → a ≡ b
one_point n a b some la lb e =
    let one : point_key (a + 1) ≡ point_key (b + 1) =
    one_place same_vertex vertex_sound vertex_itself (vertex_keys (sample n) (pos 1)) (point_key (a + 1)) (point_key (b + 1)) (place_listed n a some la)
    (place_listed n b some lb) e in
    let same : a + 1 ≡ b + 1 = ap (λ (q : VertexKey). q.index) one in
    omega (arith, same)

-- ---- the edges of the solid

abbrev pub side_edge : ℕ → ℕ → ℕ → Side → Edge
side_edge n i j s = record {
  key = key_of (edge_of n i j s);
  from = record { 0 = point_id n (edge_from n i j s) };
  to =
      record { 0 = point_id n (edge_to n i j s) };
}

one_each : (n : ℕ) (k : EdgeKey) → Has (edge_keys (sample n) (pos 1)) k → length (edge_of_key (sample n) (pos 1) k) ≡ 1
one_each n k h =
    let s = key_is n k h in
    subst (λ q. length (edge_of_key (sample n) (pos 1) q) ≡ 1) s.5
    (ap (λ o. length (numbered_by (keys_of (sample n) (pos 1)) (key_of (edge_of n s.0 s.1 s.2)) o)) (side_at n s.0 s.1 s.2 s.3 s.4))

pub edge_found : (n i j : ℕ) (s : Side) → i < n → j < n → slice_get (solid_of (sample n) 1).edges (edge_id n (edge_of n i j s)) ≡ Some (side_edge n i j s)
unfolding solid_of
edge_found n i j s li lj =
    get_single (edge_of_key (sample n) (pos 1)) (edge_keys (sample n) (pos 1)) (one_each n) (edge_id n (edge_of n i j s)) (key_of (edge_of n i j s))
    (side_edge n i j s)
    (at_place same_edge edge_sound edge_itself (edge_keys (sample n) (pos 1)) (key_of (edge_of n i j s)) (key_listed n i j s li lj))
    (ap (numbered_by (keys_of (sample n) (pos 1)) (key_of (edge_of n i j s))) (side_at n i j s li lj))

pub edges_many : (n : ℕ) → length (solid_of (sample n) 1).edges ≡ length (edge_keys (sample n) (pos 1))
unfolding solid_of
edges_many n = length-singles (edge_of_key (sample n) (pos 1)) (edge_keys (sample n) (pos 1)) (one_each n)
