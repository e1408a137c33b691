-- The rows of a shell that is turned: each runs the other way, and follows the row that followed it.
use Rattle.std.specs.Prelude.{◌≡◌, ◌⊎◌, ℕ, zero, suc, ◌+◌, ◌<◌, Bool, true, false, not, List, [], ◌∷◌, ◌++◌, length, map, flat_map, filter_map, Option, Some}
use Rattle.std.specs.Prelude.{None, option_map, slice_get, if◌then◌else◌}
use Rattle.std.specs.List.{cons_option, enumerate_from}
use Rattle.std.proofs.Common.{refl, sym, ◌∙◌, ap, subst, arith, inl, inr, ⊎_elim}
use Rattle.std.proofs.lemmas.List.{map-append, length-map}
use Rattle.std.proofs.lemmas.Option.{same_Some, slice_get_within}
use Rattle.solid_data.specs.Ring.{next_of_each, previous_of_each, numbers_from}
use Rattle.solid_data.specs.SolidData.{SolidData, PlacedLoop, placed_in_face, placed_loops, shell_uses, edge_used, vertices_used}
use Rattle.solid_data.specs.SolidData.{same_flag, occurring}
use Rattle.solid_data.specs.declared.solid.Edge.{Edge}
use Rattle.solid_data.specs.declared.solid.EdgeId.{EdgeId}
use Rattle.solid_data.specs.declared.solid.FaceUse.{FaceUse}
use Rattle.solid_data.specs.declared.solid.Loop.{Loop}
use Rattle.solid_data.specs.declared.solid.LoopAt.{LoopAt}
use Rattle.solid_data.specs.declared.solid.LoopUse.{LoopUse}
use Rattle.solid_data.specs.declared.solid.LoopUse.TheVariants.{EdgeUse, VertexUse}
use Rattle.solid_data.specs.declared.solid.Shell.{Shell}
use Rattle.solid_data.proofs.Occurring.{length-numbers}
use Rattle.edge_uses.specs.declared.row.Row.{Row}
use Rattle.edge_uses.specs.ShellRows.{ShellRows, row_of_edge, row_of, loop_rows, follows_from, point_of, shell_rows}
use Rattle.edge_uses.specs.RowRelations.{Follows}
use Rattle.edge_uses.proofs.Mating.{get_pushed}
use Rattle.edge_uses.proofs.Steps.{ring_forwards, ring_backwards}
use Rattle.shell_laws.specs.Turned.{turned}

abbrev pub turned_row : Row → Row
turned_row r = record { at = r.at; edge = r.edge; along = not r.along; from = r.to; to = r.from }

abbrev pub turned_loop : PlacedLoop → PlacedLoop
turned_loop p = record { at = p.at; forwards = not p.forwards; loop = p.loop }

-- The rows of d are those of c, turned.
pub record AreTurned (c d : ShellRows) : Type 0 where
  pub rows : d.rows ≡ map turned_row c.rows
  pub follows : (i t : ℕ) → Follows c i t → Follows d t i
  pub face_count : d.face_count ≡ c.face_count
  pub edges : d.edges ≡ c.edges
  pub vertices : d.vertices ≡ c.vertices
  pub points : d.points ≡ c.points

-- ---- loops at their places

not_same : (a b : Bool) → same_flag a (not b) ≡ not (same_flag a b)
not_same true b = refl
not_same false b = refl

abbrev pub placed_at : ℕ → Bool → ℕ × Loop → PlacedLoop
placed_at face forwards l = record { at = record { face = record { 0 = face }; place = l.0 }; forwards = forwards; loop = l.1 }

in_face_turned : (flag : Bool) (n : ℕ) (f : FaceUse) → placed_in_face (not flag) (n, f) ≡ map turned_loop (placed_in_face flag (n, f))
in_face_turned flag n f = each (enumerate_from 0 f.loops)
  where
    each : (ls : List (ℕ × Loop)) → map (placed_at n (same_flag f.flag (not flag))) ls ≡ map turned_loop (map (placed_at n (same_flag f.flag flag)) ls)
    each [] = refl
    each (l ∷ ls) = λ i. placed_at n (not_same f.flag flag i) l ∷ each ls i

pub loops_turned : (h : Shell) → placed_loops (turned h) ≡ map turned_loop (placed_loops h)
loops_turned h = each (enumerate_from 0 h.faces)
  where
    each : (fs : List (ℕ × FaceUse)) → flat_map (placed_in_face (not h.flag)) fs ≡ map turned_loop (flat_map (placed_in_face h.flag) fs)
    each [] = refl
    each (f ∷ fs) =
        ap (λ ps. ps ++ flat_map (placed_in_face (not h.flag)) fs) (in_face_turned h.flag f.0 f.1)
        ∙ (ap (λ ps. map turned_loop (placed_in_face h.flag f) ++ ps) (each fs)
        ∙ sym (map-append turned_loop (placed_in_face h.flag f) (flat_map (placed_in_face h.flag) fs)))

-- ---- their rows

edge_turned : (at : LoopAt) (edge : EdgeId) (along : Bool) (o : Option Edge)
    → row_of_edge at edge (not along) o ≡ option_map turned_row (row_of_edge at edge along o)
edge_turned at edge along None = refl
edge_turned at edge true (Some e) = refl
edge_turned at edge false (Some e) = refl

use_turned : (s : SolidData) (p : PlacedLoop) (u : LoopUse) → row_of s (turned_loop p) u ≡ option_map turned_row (row_of s p u)
use_turned s p (EdgeUse edge along) =
    ap (λ b. row_of_edge p.at edge b (slice_get s.edges edge.0)) (not_same along p.forwards)
    ∙ edge_turned p.at edge (same_flag along p.forwards) (slice_get s.edges edge.0)
use_turned s p (VertexUse vertex) = refl

pub map_cons : {A B : Type 0} (f : A → B) (o : Option A) (xs : List A) → cons_option (option_map f o) (map f xs) ≡ map f (cons_option o xs)
map_cons f None xs = refl
map_cons f (Some x) xs = refl

pub loop_rows_turned : (s : SolidData) (p : PlacedLoop) → loop_rows s (turned_loop p) ≡ map turned_row (loop_rows s p)
loop_rows_turned s p = each p.loop.uses
  where
    each : (us : List LoopUse) → filter_map (row_of s (turned_loop p)) us ≡ map turned_row (filter_map (row_of s p) us)
    each [] = refl
    each (u ∷ us) =
        ap (λ o. cons_option o (filter_map (row_of s (turned_loop p)) us)) (use_turned s p u)
        ∙ (ap (cons_option (option_map turned_row (row_of s p u))) (each us) ∙ map_cons turned_row (row_of s p u) (filter_map (row_of s p) us))

rows_turned : (s : SolidData) (ps : List PlacedLoop) → flat_map (loop_rows s) (map turned_loop ps) ≡ map turned_row (flat_map (loop_rows s) ps)
rows_turned s [] = refl
rows_turned s (p ∷ ps) =
    ap (λ rs. rs ++ flat_map (loop_rows s) (map turned_loop ps)) (loop_rows_turned s p)
    ∙ (ap (λ rs. map turned_row (loop_rows s p) ++ rs) (rows_turned s ps) ∙ sym (map-append turned_row (loop_rows s p) (flat_map (loop_rows s) ps)))

-- ---- which row follows which

number_at : (base n i t : ℕ) → slice_get (numbers_from base n) i ≡ Some t → t ≡ base + i
number_at base zero i t h = absurd cc
number_at base (suc n) zero t h = omega (arith, same_Some base t h)
number_at base (suc n) (suc i) t h = omega (arith, number_at (base + 1) n i t h)

number_there : (base n i t : ℕ) → i < n → t ≡ base + i → slice_get (numbers_from base n) i ≡ Some t
number_there base zero i t lt e = absurd (omega (arith, lt))
number_there base (suc n) zero t lt e = let same : base ≡ t = omega (arith, e) in ap Some same
number_there base (suc n) (suc i) t lt e = number_there (base + 1) n i t (omega (arith, lt)) (omega (arith, e))

get_left : {A : Type 0} (xs ys : List A) (i : ℕ) (x : A) → slice_get xs i ≡ Some x → slice_get (xs ++ ys) i ≡ Some x
get_left [] ys i x h = absurd cc
get_left (y ∷ xs) ys zero x h = h
get_left (y ∷ xs) ys (suc i) x h = get_left xs ys i x h

get_right : {A : Type 0} (xs ys : List A) (i k : ℕ) (x : A) → k ≡ length xs + i → slice_get ys i ≡ Some x → slice_get (xs ++ ys) k ≡ Some x
get_right [] ys i k x e h = let same : i ≡ k = omega (arith, e) in subst (λ j. slice_get ys j ≡ Some x) same h
get_right (y ∷ xs) ys i zero x e h = absurd (omega (arith, e))
get_right (y ∷ xs) ys i (suc k) x e h = get_right xs ys i k x (omega (arith, e)) h

get_either : {A : Type 0} (xs ys : List A) (k : ℕ) (x : A) → slice_get (xs ++ ys) k ≡ Some x
    → (slice_get xs k ≡ Some x) ⊎ ((i : ℕ) × (k ≡ length xs + i) × (slice_get ys i ≡ Some x))
get_either [] ys k x h = inr (k, omega arith, h)
get_either (y ∷ xs) ys zero x h = inl h
get_either (y ∷ xs) ys (suc k) x h = ⊎_elim inl (λ r. inr (r.0, omega (arith, r.1), r.2)) (get_either xs ys k x h)

abbrev ordered : Bool → List ℕ → List ℕ
ordered b xs = if b then next_of_each xs else previous_of_each xs

-- where a ring of numbers tells t at place i, the ring the other way round tells the number of place i at that of t
abbrev GoesBack : Bool → ℕ → ℕ → Type 0
GoesBack b base n = (i t : ℕ) → slice_get (ordered b (numbers_from base n)) i ≡ Some t
    → (j : ℕ) × (t ≡ base + j) × (slice_get (ordered (not b) (numbers_from base n)) j ≡ Some (base + i))

next_goes_back : (base n m : ℕ) → n ≡ suc m → GoesBack true base n
next_goes_back base n m e i t h =
    let f : slice_get (numbers_from (base + 1) m ++ base ∷ []) i ≡ Some t = subst (λ xs. slice_get xs i ≡ Some t) (ring_forwards base n m e) h in
    ⊎_elim
    (λ k. let low : i < m = (let w = slice_get_within (numbers_from (base + 1) m) i t k in let c = length-numbers (base + 1) m in omega (arith, w, c)) in
    let is : t ≡ base + 1 + i = number_at (base + 1) m i t k in
    (suc i, omega (arith, is), back (suc i) (number_there base m i (base + i) low refl)))
    (λ k. let c = length-numbers (base + 1) m in let last : i ≡ m = omega (arith, k.0, c) in
    (zero, omega (arith, k.1), back zero (ap (λ x. Some (base + x)) (sym last))))
    (get_pushed (numbers_from (base + 1) m) base i t f)
  where
    back : (j : ℕ) → slice_get ((base + m) ∷ numbers_from base m) j ≡ Some (base + i) → slice_get (previous_of_each (numbers_from base n)) j ≡ Some (base + i)
    back j g = subst (λ xs. slice_get xs j ≡ Some (base + i)) (sym (ring_backwards base n m e)) g

previous_goes_back : (base n m : ℕ) → n ≡ suc m → GoesBack false base n
previous_goes_back base n m e i t h = by_place i (subst (λ xs. slice_get xs i ≡ Some t) (ring_backwards base n m e) h)
  where
    back : (j k : ℕ) → slice_get (numbers_from (base + 1) m ++ base ∷ []) j ≡ Some (base + k)
        → slice_get (next_of_each (numbers_from base n)) j ≡ Some (base + k)
    back j k g = subst (λ xs. slice_get xs j ≡ Some (base + k)) (sym (ring_forwards base n m e)) g

    by_place : (k : ℕ) → slice_get ((base + m) ∷ numbers_from base m) k ≡ Some t
        → (j : ℕ) × (t ≡ base + j) × (slice_get (next_of_each (numbers_from base n)) j ≡ Some (base + k))
    by_place zero g =
        let c = length-numbers (base + 1) m in
        let same : base ≡ base + 0 = omega arith in (
          m,
          sym (same_Some (base + m) t g),
          back m 0 (get_right (numbers_from (base + 1) m) (base ∷ []) 0 m (base + 0) (omega (arith, c)) (ap Some same)),
        )
    by_place (suc k) g =
        let is : t ≡ base + k = number_at base m k t g in
        let low : k < m = (let w = slice_get_within (numbers_from base m) k t g in let c = length-numbers base m in omega (arith, w, c)) in (
          k,
          is,
          back k (suc k) (get_left (numbers_from (base + 1) m) (base ∷ []) k (base + suc k)
              (number_there (base + 1) m k (base + suc k) low (omega arith))),
        )

goes_back : (b : Bool) (base n : ℕ) → GoesBack b base n
goes_back true base zero i t h = absurd cc
goes_back false base zero i t h = absurd cc
goes_back true base (suc n) i t h = next_goes_back base (suc n) n refl i t h
goes_back false base (suc n) i t h = previous_goes_back base (suc n) n refl i t h

length-ordered : (b : Bool) (base n : ℕ) → length (ordered b (numbers_from base n)) ≡ n
length-ordered b base zero = none b
  where
    none : (b : Bool) → length (ordered b []) ≡ 0
    none true = refl
    none false = refl
length-ordered true base (suc n) =
    let c = length-numbers (base + 1) n in
    ap length (ring_forwards base (suc n) n refl) ∙ pushed (numbers_from (base + 1) n) (omega (arith, c))
  where
    pushed : (xs : List ℕ) → length xs ≡ n → length (xs ++ base ∷ []) ≡ suc n
    pushed xs e = last xs ∙ ap suc e
      where
        last : (ys : List ℕ) → length (ys ++ base ∷ []) ≡ suc (length ys)
        last [] = refl
        last (y ∷ ys) = ap suc (last ys)
length-ordered false base (suc n) = ap length (ring_backwards base (suc n) n refl) ∙ ap suc (length-numbers base n)

follows_back : (s : SolidData) (base : ℕ) (ps : List PlacedLoop) (i t : ℕ) → slice_get (follows_from s base ps) i ≡ Some t
    → (j : ℕ) × (t ≡ base + j) × (slice_get (follows_from s base (map turned_loop ps)) j ≡ Some (base + i))
follows_back s base [] i t h = absurd cc
follows_back s base (p ∷ ps) i t h =
    ⊎_elim
    (λ here. let g = goes_back p.forwards base n i t here in
    (g.0, g.1, there g.0 (get_left (ordered (not p.forwards) (numbers_from base n)) (follows_from s (base + n) (map turned_loop ps)) g.0 (base + i) g.2)))
    (λ later. let g = follows_back s (base + n) ps later.0 t later.2 in
    let place : i ≡ n + later.0 = omega (arith, later.1, length-ordered p.forwards base n) in
    let same : base + n + later.0 ≡ base + i = omega (arith, place) in (
      n + g.0,
      omega (arith, g.1),
      there (n + g.0)
          (get_right (ordered (not p.forwards) (numbers_from base n)) (follows_from s (base + n) (map turned_loop ps)) g.0 (n + g.0) (base + i)
          (omega (arith, length-ordered (not p.forwards) base n)) (g.2 ∙ ap Some same)),
    ))
    (get_either (ordered p.forwards (numbers_from base n)) (follows_from s (base + n) ps) i t h)
  where
    n : ℕ
    n = length (loop_rows s p)

    as_many : n ≡ length (loop_rows s (turned_loop p))
    as_many = sym (ap length (loop_rows_turned s p) ∙ length-map (loop_rows s p) turned_row)

    there : (j : ℕ) → slice_get (ordered (not p.forwards) (numbers_from base n) ++ follows_from s (base + n) (map turned_loop ps)) j ≡ Some (base + i)
        → slice_get (follows_from s base (map turned_loop (p ∷ ps))) j ≡ Some (base + i)
    there j g =
        subst (λ m. slice_get (ordered (not p.forwards) (numbers_from base m) ++ follows_from s (base + m) (map turned_loop ps)) j ≡ Some (base + i)) as_many g

-- ---- all of it

uses_turned : (h : Shell) → shell_uses (turned h) ≡ shell_uses h
uses_turned h = ap (flat_map (λ (p : PlacedLoop). p.loop.uses)) (loops_turned h) ∙ each (placed_loops h)
  where
    each : (ps : List PlacedLoop) → flat_map (λ (p : PlacedLoop). p.loop.uses) (map turned_loop ps) ≡ flat_map (λ (p : PlacedLoop). p.loop.uses) ps
    each [] = refl
    each (p ∷ ps) = ap (λ us. p.loop.uses ++ us) (each ps)

abbrev edges_of_rows : List Row → List ℕ
edges_of_rows rows = map (λ (r : Row). r.edge.0) rows

same_edges : (rows : List Row) → edges_of_rows (map turned_row rows) ≡ edges_of_rows rows
same_edges [] = refl
same_edges (r ∷ rows) = ap (λ es. r.edge.0 ∷ es) (same_edges rows)

same_point : (p : PlacedLoop) (us : List LoopUse) (es : List ℕ) → point_of (turned_loop p) us es ≡ point_of p us es
same_point p [] es = refl
same_point p (EdgeUse edge along ∷ us) es = refl
same_point p (VertexUse vertex ∷ us) [] = refl
same_point p (VertexUse vertex ∷ us) (e ∷ es) = refl

points_turned : (s : SolidData) (ps : List PlacedLoop)
    → flat_map (λ (p : PlacedLoop). point_of p p.loop.uses (edges_of_rows (loop_rows s p))) (map turned_loop ps)
    ≡ flat_map (λ (p : PlacedLoop). point_of p p.loop.uses (edges_of_rows (loop_rows s p))) ps
points_turned s [] = refl
points_turned s (p ∷ ps) = λ i.
    (ap (λ rs. point_of (turned_loop p) p.loop.uses (edges_of_rows rs)) (loop_rows_turned s p)
    ∙ (ap (point_of (turned_loop p) p.loop.uses) (same_edges (loop_rows s p)) ∙ same_point p p.loop.uses (edges_of_rows (loop_rows s p)))) i
    ++ points_turned s ps i

plain : (i : ℕ) → 0 + i ≡ i
plain i = omega arith

pub shell_rows_turned : (s : SolidData) (h : Shell) → AreTurned (shell_rows s h) (shell_rows s (turned h))
unfolding shell_rows
shell_rows_turned s h = record {
  rows = ap (flat_map (loop_rows s)) (loops_turned h) ∙ rows_turned s (placed_loops h);
  follows = λ i t f. let g = follows_back s 0 (placed_loops h) i t f in
      let same : t ≡ g.0 = omega (arith, g.1) in
      subst (λ ps. slice_get (follows_from s 0 ps) t ≡ Some i) (sym (loops_turned h))
      (subst (λ j. slice_get (follows_from s 0 (map turned_loop (placed_loops h))) j ≡ Some i) (sym same)
      (g.2 ∙ ap Some (plain i)));
  face_count = refl;
  edges = ap (λ us. occurring (numbers_from 0 (length s.edges)) (flat_map edge_used us)) (uses_turned h);
  vertices = ap (λ us. occurring (numbers_from 0 (length s.vertices)) (flat_map (vertices_used s) us)) (uses_turned h);
  points = ap (flat_map (λ (p : PlacedLoop). point_of p p.loop.uses (edges_of_rows (loop_rows s p)))) (loops_turned h) ∙ points_turned s (placed_loops h);
}
