-- The rows of a sample's shell go round the squares of a mesh.
use Rattle.std.specs.Prelude.{◌≡◌, ℕ, zero, suc, ◌+◌, ◌*◌, ◌/◌, ◌%◌, ◌<◌, Bool, true, false, ℤ, pos, List, [], ◌∷◌, ◌++◌, length, map, flat_map, Option, Some}
use Rattle.std.specs.Prelude.{slice_get, if◌then◌else◌}
use Rattle.std.specs.List.{AllByRecursion, enumerate_from, cons_option}
use Rattle.std.proofs.Common.{refl, sym, ◌∙◌, ap, subst, arith, inl, inr}
use Rattle.std.proofs.Math.Nat.{mod-lt}
use Rattle.std.proofs.lemmas.List.{length-map}
use Rattle.std.proofs.lemmas.List.FromFn.{length-enumerate_from}
use Rattle.std.proofs.lemmas.Nat.{div-add-mod', div_below}
use Rattle.std.proofs.lemmas.Option.{same_Some, slice_get_within}
use Rattle.solid_data.proofs.Occurs.{from_occurring}
use Rattle.iges_params.specs.Contents.{Contents}
use Rattle.brep_lists.specs.Record.{LoopTuple}
use Rattle.brep_walk.specs.Places.{faces}
use Rattle.brep_walk.specs.SolidOf.{entry_no, use_of, loop_of, face_of, shell_of, solid_of}
use Rattle.solid_data.specs.Ring.{next_of_each, previous_of_each, numbers_from}
use Rattle.solid_data.specs.SolidData.{SolidData, PlacedLoop, placed_in_face, placed_loops, shell_uses, shell_edges, shell_vertices, edge_used, ends_of}
use Rattle.solid_data.specs.SolidData.{vertices_used}
use Rattle.solid_data.specs.declared.solid.Edge.{Edge}
use Rattle.solid_data.specs.declared.solid.EdgeId.{EdgeId}
use Rattle.solid_data.specs.declared.solid.LoopAt.{LoopAt}
use Rattle.solid_data.specs.declared.solid.LoopUse.{LoopUse}
use Rattle.solid_data.specs.declared.solid.LoopUse.TheVariants.{EdgeUse}
use Rattle.solid_data.specs.declared.solid.Shell.{Shell}
use Rattle.edge_uses.specs.declared.row.Row.{Row}
use Rattle.edge_uses.specs.ShellRows.{ShellRows, row_of_edge, loop_rows, follows_from, point_of, shell_rows}
use Rattle.edge_uses.specs.Before.{IsApart}
use Rattle.edge_uses.specs.Joins.{begin_of, start_of as starts_at, end_of as ends_at, IsJoined}
use Rattle.edge_uses.specs.Around.{IsReached}
use Rattle.shell_rules.specs.Closed.{IsClosedShell, IsClosedSolid}
use Rattle.solid_data.proofs.Members.{Has, All-from, from_flat_map, has_map, from_enumerated}
use Rattle.sample_solids.specs.Sample.{squares, face_number, sample}
use Rattle.sample_solids.proofs.Squares.{get_right, get_chunk, get_map, length_chunks, length_squares, squares_get, squares_below, only_one}
use Rattle.sample_solids.proofs.Mesh.{Side, near, right, far, left, place, after, is_along, vertex, edge_of, start_of, number, side_row, IsMesh, mesh_paired}
use Rattle.sample_solids.proofs.Mesh.{mesh_linked, mesh_reached}
use Rattle.sample_solids.proofs.Records.{face_item}
use Rattle.sample_solids.proofs.Tuples.{shells_are, faces_are, loops_are, tuples_are}
use Rattle.sample_solids.proofs.Keys.{edge_id, point_id, edge_found, end_is, one_edge, one_point, side_of}

-- ---- the loops

abbrev pub the_solid : ℕ → SolidData
the_solid n = solid_of (sample n) 1

abbrev pub the_shell : ℕ → Shell
the_shell n = shell_of (sample n) (pos 1) (pos 3, true)

pub shells_of : (n : ℕ) → (the_solid n).shells ≡ the_shell n ∷ []
unfolding solid_of
shells_of n = ap (map (shell_of (sample n) (pos 1))) (shells_are n)

pub faces_many : (n : ℕ) → length (the_shell n).faces ≡ n * n
faces_many n =
    length-map (faces (sample n) (pos 3)) (face_of (sample n) (pos 1))
    ∙ (ap (λ cs. length cs) (faces_are n) ∙ (length-map (squares n) (face_item n) ∙ length_squares n))

abbrev pub side_use : ℕ → ℕ → ℕ → Side → LoopUse
side_use n i j s = EdgeUse (record { 0 = edge_id n (edge_of n i j s) }) (is_along s)

abbrev pub square_uses : ℕ → ℕ × ℕ → List LoopUse
square_uses n p = side_use n p.0 p.1 near ∷ side_use n p.0 p.1 right ∷ side_use n p.0 p.1 far ∷ side_use n p.0 p.1 left ∷ []

-- the loop of a square on the face of this number
abbrev pub placed : ℕ → ℕ × (ℕ × ℕ) → PlacedLoop
placed n q = record {
  at = record { face = record { 0 = q.0 }; place = 0 };
  forwards = true;
  loop = record { entity = entry_no (pos (face_number n q.1.0 q.1.1 + 2)); uses = square_uses n q.1 };
}

face_placed : (n base : ℕ) (p : ℕ × ℕ) → p.0 < n → p.1 < n → placed_in_face true (base, face_of (sample n) (pos 1) (face_item n p)) ≡ placed n (base, p) ∷ []
face_placed n base p li lj =
    let f : Contents = sample n in
    ap (λ (ls : List ℤ). placed_in_face true
    (base, record { entity = entry_no (pos (face_number n p.0 p.1)); flag = true; loops = map (loop_of f (pos 1)) ls })) (loops_are n p.0 p.1 li lj)
    ∙ ap (λ (ts : List LoopTuple).
    record {
      at = record { face = record { 0 = base }; place = 0 };
      forwards = true;
      loop =
          record { entity = entry_no (pos (face_number n p.0 p.1 + 2)); uses = map (use_of f (pos 1)) ts };
    } ∷ [])
    (tuples_are n p.0 p.1 li lj)

placed_from : (n base : ℕ) (ss : List (ℕ × ℕ)) → ((s : ℕ × ℕ) → Has ss s → (s.0 < n) × (s.1 < n))
    → flat_map (placed_in_face true) (enumerate_from base (map (face_of (sample n) (pos 1)) (map (face_item n) ss))) ≡ map (placed n) (enumerate_from base ss)
placed_from n base [] below = refl
placed_from n base (s ∷ ss) below =
    let here = below s (inl refl) in
    ap (λ ps. ps ++ flat_map (placed_in_face true) (enumerate_from (base + 1) (map (face_of (sample n) (pos 1)) (map (face_item n) ss))))
    (face_placed n base s here.0 here.1)
    ∙ ap (λ ps. placed n (base, s) ∷ ps) (placed_from n (base + 1) ss (λ t h. below t (inr h)))

abbrev pub the_loops : ℕ → List PlacedLoop
the_loops n = map (placed n) (enumerate_from 0 (squares n))

pub placed_are : (n : ℕ) → placed_loops (the_shell n) ≡ the_loops n
placed_are n =
    ap (λ cs. flat_map (placed_in_face true) (enumerate_from 0 (map (face_of (sample n) (pos 1)) cs))) (faces_are n)
    ∙ placed_from n 0 (squares n) (squares_below n)

loop_is : (n : ℕ) (p : PlacedLoop) → Has (the_loops n) p → (q : ℕ × (ℕ × ℕ)) × (q.1.0 < n) × (q.1.1 < n) × (placed n q ≡ p)
loop_is n p h =
    let k = has_map (placed n) (enumerate_from 0 (squares n)) p h in
    let below = squares_below n k.0.1 (from_enumerated 0 (squares n) k.0 k.1) in
    (k.0, below.0, below.1, k.2)

enumerated_get : {A : Type 0} (base : ℕ) (xs : List A) (k : ℕ) (x : A) → slice_get xs k ≡ Some x → slice_get (enumerate_from base xs) k ≡ Some (base + k, x)
enumerated_get base [] k x at = absurd cc
enumerated_get base (y ∷ xs) zero x at = let e : base ≡ base + 0 = omega arith in ap (λ z. Some (base, z)) (same_Some y x at) ∙ ap (λ b. Some (b, x)) e
enumerated_get base (y ∷ xs) (suc k) x at = let e : base + 1 + k ≡ base + suc k = omega arith in enumerated_get (base + 1) xs k x at ∙ ap (λ b. Some (b, x)) e

loop_get : (n i j : ℕ) → i < n → j < n → slice_get (the_loops n) (i * n + j) ≡ Some (placed n (i * n + j, (i, j)))
loop_get n i j li lj =
    let e : 0 + (i * n + j) ≡ i * n + j = omega arith in
    get_map (placed n) (enumerate_from 0 (squares n)) (i * n + j) (i * n + j, (i, j))
    (enumerated_get 0 (squares n) (i * n + j) (i, j) (squares_get n i j (i * n + j) li lj refl) ∙ ap (λ b. Some (b, (i, j))) e)

loops_many : (n : ℕ) → length (the_loops n) ≡ n * n
loops_many n = length-map (enumerate_from 0 (squares n)) (placed n) ∙ (length-enumerate_from 0 (squares n) ∙ length_squares n)

-- ---- the rows

-- the row of a side, where the face has this number
abbrev row_on : ℕ → ℕ → ℕ → ℕ → Side → Row
row_on n k i j s = record {
  at = record { face = record { 0 = k }; place = 0 };
  edge = record { 0 = edge_id n (edge_of n i j s) };
  along = is_along s;
  from = record { 0 = point_id n (start_of n i j s) };
  to = record { 0 = point_id n (start_of n i j (after s)) };
}

abbrev square_rows : ℕ → ℕ → ℕ → ℕ → List Row
square_rows n k i j = row_on n k i j near ∷ row_on n k i j right ∷ row_on n k i j far ∷ row_on n k i j left ∷ []

-- the rows of the four uses, by what their edges are
abbrev rows_by : ℕ → ℕ → ℕ → ℕ → Option Edge → Option Edge → Option Edge → Option Edge → List Row
rows_by n k i j a b c d =
    let at : LoopAt = record { face = record { 0 = k }; place = 0 } in
    cons_option (row_of_edge at (record { 0 = edge_id n (edge_of n i j near) }) true a)
    (cons_option (row_of_edge at (record { 0 = edge_id n (edge_of n i j right) }) true b)
    (cons_option (row_of_edge at (record { 0 = edge_id n (edge_of n i j far) }) false c)
    (cons_option (row_of_edge at (record { 0 = edge_id n (edge_of n i j left) }) false d) [])))

rows_are : (n k i j : ℕ) → i < n → j < n → loop_rows (the_solid n) (placed n (k, (i, j))) ≡ square_rows n k i j
rows_are n k i j li lj =
    let a = edge_found n i j near li lj in
    let b = edge_found n i j right li lj in
    let c = edge_found n i j far li lj in
    let d = edge_found n i j left li lj in
    λ t. rows_by n k i j (a t) (b t) (c t) (d t)

four_each : (n : ℕ) (p : PlacedLoop) → Has (the_loops n) p → length (loop_rows (the_solid n) p) ≡ 4
four_each n p h =
    let q = loop_is n p h in
    subst (λ x. length (loop_rows (the_solid n) x) ≡ 4) q.3 (ap (λ rs. length rs) (rows_are n q.0.0 q.0.1.0 q.0.1.1 q.1 q.2))

row_got : (n k i j : ℕ) (s : Side) → slice_get (square_rows n k i j) (place s) ≡ Some (row_on n k i j s)
row_got n k i j near = refl
row_got n k i j right = refl
row_got n k i j far = refl
row_got n k i j left = refl

place_below : (s : Side) → place s < 4
place_below near = omega arith
place_below right = omega arith
place_below far = omega arith
place_below left = omega arith

abbrev pub the_rows : ℕ → ShellRows
the_rows n = shell_rows (the_solid n) (the_shell n)

row_get : (n i j : ℕ) (s : Side) → i < n → j < n → slice_get (the_rows n).rows (number n i j s) ≡ Some (side_row n (edge_id n) (point_id n) i j s)
unfolding shell_rows
row_get n i j s li lj =
    ap (λ ps. slice_get (flat_map (loop_rows (the_solid n)) ps) (number n i j s)) (placed_are n)
    ∙ (get_chunk (loop_rows (the_solid n)) 4 (the_loops n) (four_each n) (i * n + j) (place s) (number n i j s) (placed n (i * n + j, (i, j)))
    (loop_get n i j li lj) (place_below s) refl
    ∙ (ap (λ rs. slice_get rs (place s)) (rows_are n (i * n + j) i j li lj) ∙ row_got n (i * n + j) i j s))

pub rows_many : (n : ℕ) → length (the_rows n).rows ≡ 4 * (n * n)
unfolding shell_rows
rows_many n =
    ap (λ ps. length (flat_map (loop_rows (the_solid n)) ps)) (placed_are n)
    ∙ (length_chunks (loop_rows (the_solid n)) 4 (the_loops n) (four_each n) ∙ ap (λ m. 4 * m) (loops_many n))

side_at_place : (c : ℕ) → c < 4 → (s : Side) × (place s ≡ c)
side_at_place zero lt = (near, refl)
side_at_place (suc zero) lt = (right, refl)
side_at_place (suc (suc zero)) lt = (far, refl)
side_at_place (suc (suc (suc zero))) lt = (left, refl)
side_at_place (suc (suc (suc (suc c)))) lt = absurd (omega (arith, lt))

each_row : (n : ℕ) → 0 < n → (r : ℕ) (x : Row) → slice_get (the_rows n).rows r ≡ Some x → (i j : ℕ) × (s : Side) × (i < n) × (j < n) × (r ≡ number n i j s)
each_row n some r x at =
    let below = slice_get_within (the_rows n).rows r x at in
    let k : ℕ = r / 4 in
    let lt : k < n * n = omega (arith, below, rows_many n) in
    let s = side_at_place (r % 4) (mod-lt r (omega arith)) in
    let e : k / n * n + k % n ≡ k = div-add-mod' k n in
    (k / n, k % n, s.0, div_below k n n some lt, mod-lt k some, omega (arith, e, s.1))

-- ---- what follows

four_on : (base : ℕ) (s : Side) (rest : List ℕ) → slice_get (next_of_each (numbers_from base 4) ++ rest) (place s) ≡ Some (base + place (after s))
four_on base near rest = refl
four_on base right rest = let e : base + 1 + 1 ≡ base + 2 = omega arith in ap Some e
four_on base far rest = let e : base + 1 + 1 + 1 ≡ base + 3 = omega arith in ap Some e
four_on base left rest = let e : base ≡ base + 0 = omega arith in ap Some e

abbrev ring : Bool → ℕ → ℕ → List ℕ
ring forwards base m = if forwards then next_of_each (numbers_from base m) else previous_of_each (numbers_from base m)

follows_get : (s : SolidData) (ps : List PlacedLoop) → ((p : PlacedLoop) → Has ps p → length (loop_rows s p) ≡ 4)
    → ((p : PlacedLoop) → Has ps p → p.forwards ≡ true)
    → (base k : ℕ) (c : Side) → k < length ps → slice_get (follows_from s base ps) (4 * k + place c) ≡ Some (base + (4 * k + place (after c)))
follows_get s [] four ahead base k c lt = absurd (omega (arith, lt))
follows_get s (p ∷ ps) four ahead base k c lt =
    let m = four p (inl refl) in
    let b = ahead p (inl refl) in
    (λ t. slice_get (ring (b t) base (m t) ++ follows_from s (base + m t) ps) (4 * k + place c))
    ∙ by_number k (follows_get s ps (λ q h. four q (inr h)) (λ q h. ahead q (inr h)) (base + 4)) lt
  where
    by_number : (k : ℕ) → ((k : ℕ) (c : Side) → k < length ps → slice_get (follows_from s (base + 4) ps) (4 * k + place c)
        ≡ Some (base + 4 + (4 * k + place (after c)))) → k < length (p ∷ ps)
        → slice_get (next_of_each (numbers_from base 4) ++ follows_from s (base + 4) ps) (4 * k + place c) ≡ Some (base + (4 * k + place (after c)))
    by_number zero later lt =
        let e : 4 * 0 + place c ≡ place c = omega arith in
        let f : base + place (after c) ≡ base + (4 * 0 + place (after c)) = omega arith in
        ap (slice_get (next_of_each (numbers_from base 4) ++ follows_from s (base + 4) ps)) e ∙ (four_on base c (follows_from s (base + 4) ps) ∙ ap Some f)
    by_number (suc k) later lt =
        let f : base + 4 + (4 * k + place (after c)) ≡ base + (4 * suc k + place (after c)) = omega arith in
        get_right (next_of_each (numbers_from base 4)) (follows_from s (base + 4) ps) (4 * suc k + place c) (4 * k + place c) (omega arith)
        ∙ (later k c (omega (arith, lt)) ∙ ap Some f)

all_ahead : (n : ℕ) (p : PlacedLoop) → Has (the_loops n) p → p.forwards ≡ true
all_ahead n p h = let q = loop_is n p h in sym (ap (λ (x : PlacedLoop). x.forwards) q.3)

follow_get : (n i j : ℕ) (s : Side) → i < n → j < n → slice_get (the_rows n).follows (number n i j s) ≡ Some (number n i j (after s))
unfolding shell_rows
follow_get n i j s li lj =
    let lt = slice_get_within (the_loops n) (i * n + j) (placed n (i * n + j, (i, j))) (loop_get n i j li lj) in
    let e : 0 + number n i j (after s) ≡ number n i j (after s) = omega arith in
    ap (λ ps. slice_get (follows_from (the_solid n) 0 ps) (number n i j s)) (placed_are n)
    ∙ (follows_get (the_solid n) (the_loops n) (four_each n) (all_ahead n) 0 (i * n + j) s lt ∙ ap Some e)

-- ---- no loop is a point

edge_first : (p : PlacedLoop) (e : EdgeId) (along : Bool) (us : List LoopUse) (es : List ℕ) → point_of p (EdgeUse e along ∷ us) es ≡ []
edge_first p e along us [] = refl
edge_first p e along us (x ∷ es) = refl

none_in : {A B : Type 0} (g : A → List B) (xs : List A) → ((x : A) → Has xs x → g x ≡ []) → flat_map g xs ≡ []
none_in g [] none = refl
none_in g (x ∷ xs) none = ap (λ ys. ys ++ flat_map g xs) (none x (inl refl)) ∙ none_in g xs (λ y h. none y (inr h))

abbrev points_of : ℕ → PlacedLoop → List (LoopAt × ℕ)
points_of n p = point_of p p.loop.uses (map (λ (r : Row). r.edge.0) (loop_rows (the_solid n) p))

no_points : (n : ℕ) → (the_rows n).points ≡ []
unfolding shell_rows
no_points n =
    ap (λ ps. flat_map (points_of n) ps) (placed_are n)
    ∙ none_in (points_of n) (the_loops n) (λ p h.
    let q = loop_is n p h in
    subst (λ x. points_of n x ≡ []) q.3
    (edge_first (placed n q.0) (record { 0 = edge_id n (edge_of n q.0.1.0 q.0.1.1 near) }) true
    (side_use n q.0.1.0 q.0.1.1 right ∷ side_use n q.0.1.0 q.0.1.1 far ∷ side_use n q.0.1.0 q.0.1.1 left ∷ [])
    (map (λ (r : Row). r.edge.0) (loop_rows (the_solid n) (placed n q.0)))))

-- ---- which edges and vertices occur

use_is : (n : ℕ) (u : LoopUse) → Has (shell_uses (the_shell n)) u → (i j : ℕ) × (s : Side) × (i < n) × (j < n) × (side_use n i j s ≡ u)
use_is n u h =
    let p = from_flat_map (λ (q : PlacedLoop). q.loop.uses) (placed_loops (the_shell n)) u h in
    let q = loop_is n p.0 (subst (λ ps. Has ps p.0) (placed_are n) p.1) in
    let s = side_of (side_use n q.0.1.0 q.0.1.1) u (subst (λ (x : PlacedLoop). Has x.loop.uses u) (sym q.3) p.2) in
    (q.0.1.0, q.0.1.1, s.0, q.1, q.2, s.1)

edge_occurs : (n e : ℕ) → Has (the_rows n).edges e → (i j : ℕ) × (s : Side) × (i < n) × (j < n) × (edge_id n (edge_of n i j s) ≡ e)
unfolding shell_rows
edge_occurs n e h =
    let u = from_flat_map edge_used (shell_uses (the_shell n)) e (from_occurring (numbers_from 0 (length (the_solid n).edges)) (shell_edges (the_shell n)) e h)
    in
    let s = use_is n u.0 u.1 in
    (s.0, s.1, s.2, s.3, s.4, only_one (edge_id n (edge_of n s.0 s.1 s.2)) e (subst (λ w. Has (edge_used w) e) (sym s.5) u.2))

vertex_occurs : (n v : ℕ) → Has (the_rows n).vertices v → (i j : ℕ) × (i < n) × (j < n) × (point_id n (vertex n i j) ≡ v)
unfolding shell_rows
vertex_occurs n v h =
    let u = from_flat_map (vertices_used (the_solid n)) (shell_uses (the_shell n)) v
    (from_occurring (numbers_from 0 (length (the_solid n).vertices)) (shell_vertices (the_solid n) (the_shell n)) v h) in
    let s = use_is n u.0 u.1 in
    let at_end : Has (ends_of (slice_get (the_solid n).edges (edge_id n (edge_of n s.0 s.1 s.2)))) v =
    subst (λ w. Has (vertices_used (the_solid n) w) v) (sym s.5) u.2 in
    end_is (point_id n) n s.0 s.1 s.2 s.3 s.4 v (subst (λ o. Has (ends_of o) v) (edge_found n s.0 s.1 s.2 s.3 s.4) at_end)

-- The rows of a sample are those of a mesh.
pub is_mesh : (n : ℕ) → 0 < n → IsMesh (the_rows n) n (edge_id n) (point_id n)
is_mesh n some = record {
  some = some;
  row = row_get n;
  each = each_row n some;
  follows = follow_get n;
  points = no_points n;
  edges = edge_occurs n;
  vertices = vertex_occurs n;
  one_edge = λ a b la lb. one_edge n a b some la lb;
  one_point = λ a b la lb. one_point n a b some la lb;
}

-- ---- JOIN

abbrev ends_by : Option Edge → Option Edge → Option Edge → Option Edge → List ℕ
ends_by a b c d = begin_of a false ∷ begin_of b false ∷ begin_of c true ∷ begin_of d true ∷ []

abbrev starts_by : Option Edge → Option Edge → Option Edge → Option Edge → List ℕ
starts_by a b c d = begin_of b true ∷ begin_of c false ∷ begin_of d false ∷ begin_of a true ∷ []

square_joined : (n i j : ℕ) → i < n → j < n → map (ends_at (the_solid n)) (square_uses n (i, j))
    ≡ next_of_each (map (starts_at (the_solid n)) (square_uses n (i, j)))
square_joined n i j li lj =
    let a = edge_found n i j near li lj in
    let b = edge_found n i j right li lj in
    let c = edge_found n i j far li lj in
    let d = edge_found n i j left li lj in
    (λ t. ends_by (a t) (b t) (c t) (d t)) ∙ sym (λ t. starts_by (a t) (b t) (c t) (d t))

all_joined : (n : ℕ) → AllByRecursion (λ (p : PlacedLoop). IsJoined (the_solid n) p.loop) (placed_loops (the_shell n))
all_joined n = All-from (λ (p : PlacedLoop). IsJoined (the_solid n) p.loop) (placed_loops (the_shell n)) (λ p h.
    let q = loop_is n p (subst (λ ps. Has ps p) (placed_are n) h) in
    subst (λ (x : PlacedLoop). IsJoined (the_solid n) x.loop) q.3 (square_joined n q.0.1.0 q.0.1.1 q.1 q.2))

-- ---- the whole

-- no shell comes before the first
first_apart : (s : SolidData) (v : ℕ) → IsApart s 0 v
first_apart s v (k, lt, e) = omega (arith, lt)

pub shell_closed : (n : ℕ) → 0 < n → IsClosedShell (the_solid n) 0 (the_shell n)
shell_closed n some = record {
  joined = all_joined n;
  paired = mesh_paired (the_rows n) n (edge_id n) (point_id n) (is_mesh n some);
  reached = subst (λ m. AllByRecursion (IsReached (the_rows n)) (numbers_from 0 m)) (sym (faces_many n))
      (mesh_reached (the_rows n) n (edge_id n) (point_id n) (is_mesh n some));
  linked = mesh_linked (the_rows n) n (edge_id n) (point_id n) (is_mesh n some);
  apart = All-from (IsApart (the_solid n) 0) (the_rows n).vertices (λ v h. first_apart (the_solid n) v);
}

-- The solid of a sample is closed.
pub solid_closed : (n : ℕ) → 0 < n → IsClosedSolid (the_solid n)
solid_closed n some = subst (λ hs. AllByRecursion (λ (h : ℕ × Shell). IsClosedShell (the_solid n) h.0 h.1) (enumerate_from 0 hs)) (sym (shells_of n))
    (shell_closed n some, tt)
