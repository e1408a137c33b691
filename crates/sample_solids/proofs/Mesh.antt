-- A shell whose rows go round the squares of a mesh is closed.
use Rattle.std.specs.Prelude.{◌≡◌, ℕ, zero, suc, ◌+◌, ◌*◌, ◌/◌, ◌%◌, ◌<◌, ◌≤◌, ◌==◌, ◌&&◌, Bool, true, false, not, cond, List, [], ◌∷◌, count_by, Some}
use Rattle.std.specs.Prelude.{slice_get}
use Rattle.std.specs.List.{AllByRecursion}
use Rattle.std.proofs.Common.{refl, sym, ◌∙◌, ap, subst, arith, inl}
use Rattle.std.proofs.Math.Nat.{mod-lt}
use Rattle.std.proofs.lemmas.Bool.{eq-eqb, eqb-true, and_parts, and_from, not-true}
use Rattle.std.proofs.lemmas.Nat.{mul-add-lt, same_from_place, div-add-mod', div_below}
use Rattle.std.proofs.lemmas.Option.{same_Some}
use Rattle.solid_data.specs.Chain.{LeadsTo}
use Rattle.solid_data.specs.Ring.{numbers_from}
use Rattle.solid_data.specs.declared.solid.LoopAt.{LoopAt}
use Rattle.edge_uses.specs.declared.row.Row.{Row}
use Rattle.edge_uses.specs.ShellRows.{ShellRows}
use Rattle.edge_uses.specs.RowRelations.{row_count, IsPaired, AreMates, Turns, StartsAt, OnFace}
use Rattle.edge_uses.specs.Around.{AreNeighbours, IsReached, IsLinked}
use Rattle.solid_data.proofs.Members.{Has, All-from, total, count_by-total}
use Rattle.solid_data.proofs.Occurring.{number_below}
use Rattle.solid_data.proofs.Trail.{leads_trans, leads_here, leads_one, leads_last}
use Rattle.sample_solids.proofs.Round.{next, back, next_below, back_below, next_small, next_back, back_next}

-- ---- rows that pass once

none_counted : (p : Row → Bool) (rows : List Row) → ((m : ℕ) (x : Row) → slice_get rows m ≡ Some x → p x ≡ true → ⊥) → total (λ x. cond (p x) 1 0) rows ≡ 0
none_counted p [] never = refl
none_counted p (x ∷ rows) never = by_test (p x) refl (none_counted p rows (λ m y at. never (suc m) y at))
  where
    by_test : (b : Bool) → p x ≡ b → total (λ y. cond (p y) 1 0) rows ≡ 0 → cond (p x) 1 0 + total (λ y. cond (p y) 1 0) rows ≡ 0
    by_test true e rest = absurd (never zero x refl e)
    by_test false e rest = let h : ◌≡◌ {A = ℕ} (cond (p x) 1 0) 0 = ap (λ b. cond b 1 0) e in omega (arith, h, rest)

one_counted : (p : Row → Bool) (rows : List Row) (n : ℕ) (r : Row) → slice_get rows n ≡ Some r → p r ≡ true
    → ((m : ℕ) (x : Row) → slice_get rows m ≡ Some x → p x ≡ true → m ≡ n)
    → total (λ x. cond (p x) 1 0) rows ≡ 1
one_counted p [] n r at passes one = absurd cc
one_counted p (x ∷ rows) zero r at passes one =
    let h : ◌≡◌ {A = ℕ} (cond (p x) 1 0) 1 = ap (λ b. cond b 1 0) (ap p (same_Some x r at) ∙ passes) in
    let rest : total (λ y. cond (p y) 1 0) rows ≡ 0 = none_counted p rows (λ m y there e. let w : suc m ≡ 0 = one (suc m) y there e in omega (arith, w)) in
    omega (arith, h, rest)
one_counted p (x ∷ rows) (suc n) r at passes one =
    by_test (p x) refl (one_counted p rows n r at passes (λ m y there e. let w : suc m ≡ suc n = one (suc m) y there e in omega (arith, w)))
  where
    by_test : (b : Bool) → p x ≡ b → total (λ y. cond (p y) 1 0) rows ≡ 1 → cond (p x) 1 0 + total (λ y. cond (p y) 1 0) rows ≡ 1
    by_test true e rest = absurd (let w : zero ≡ suc n = one zero x refl e in omega (arith, w))
    by_test false e rest = let h : ◌≡◌ {A = ℕ} (cond (p x) 1 0) 0 = ap (λ b. cond b 1 0) e in omega (arith, h, rest)

-- one row has the edge in the direction, at one place
pub row_once : (d : ShellRows) (e : ℕ) (way : Bool) (r : ℕ) (row : Row) → slice_get d.rows r ≡ Some row → row.edge.0 ≡ e → row.along ≡ way
    → ((m : ℕ) (x : Row) → slice_get d.rows m ≡ Some x → x.edge.0 ≡ e → x.along ≡ way → m ≡ r) → row_count d e way ≡ 1
row_once d e true r row at edge along one =
    let p : Row → Bool = λ x. (x.edge.0 == e) && x.along in
    count_by-total p d.rows
    ∙ one_counted p d.rows r row at (and_from (row.edge.0 == e) row.along (eq-eqb row.edge.0 e edge) along)
    (λ m x there h. let k = and_parts (x.edge.0 == e) x.along h in one m x there (eqb-true x.edge.0 e k.0) k.1)
row_once d e false r row at edge along one =
    let p : Row → Bool = λ x. (x.edge.0 == e) && not x.along in
    count_by-total p d.rows
    ∙ one_counted p d.rows r row at (and_from (row.edge.0 == e) (not row.along) (eq-eqb row.edge.0 e edge) (ap not along))
    (λ m x there h. let k = and_parts (x.edge.0 == e) (not x.along) h in one m x there (eqb-true x.edge.0 e k.0) (not-true x.along k.1))

-- ---- the sides of squares

-- the sides of a square in the order of its loop
pub data Side : Type 0 where
  near : Side
  right : Side
  far : Side
  left : Side

abbrev pub place : Side → ℕ
place near = 0
place right = 1
place far = 2
place left = 3

abbrev pub after : Side → Side
after near = right
after right = far
after far = left
after left = near

abbrev pub is_along : Side → Bool
is_along near = true
is_along right = true
is_along far = false
is_along left = false

-- the vertex at (i, j), the edge across from there and the edge up from there, by their indices
abbrev pub vertex : ℕ → ℕ → ℕ → ℕ
vertex n i j = i * n + j + 1

abbrev pub across : ℕ → ℕ → ℕ → ℕ
across n i j = 2 * (i * n + j) + 1

abbrev pub up : ℕ → ℕ → ℕ → ℕ
up n i j = 2 * (i * n + j) + 2

abbrev pub edge_of : ℕ → ℕ → ℕ → Side → ℕ
edge_of n i j near = across n i j
edge_of n i j right = up n i (next n j)
edge_of n i j far = across n (next n i) j
edge_of n i j left = up n i j

abbrev pub start_of : ℕ → ℕ → ℕ → Side → ℕ
start_of n i j near = vertex n i j
start_of n i j right = vertex n i (next n j)
start_of n i j far = vertex n (next n i) (next n j)
start_of n i j left = vertex n (next n i) j

-- the number of the row of a side
abbrev pub number : ℕ → ℕ → ℕ → Side → ℕ
number n i j s = 4 * (i * n + j) + place s

-- the row of a side, where the edge of index k has the id `edge k`, and the vertex of index k the id `point k`
abbrev pub side_row : ℕ → (ℕ → ℕ) → (ℕ → ℕ) → ℕ → ℕ → Side → Row
side_row n edge point i j s = record {
  at = record { face = record { 0 = i * n + j }; place = 0 };
  edge = record { 0 = edge (edge_of n i j s) };
  along = is_along s;
  from = record { 0 = point (start_of n i j s) };
  to = record { 0 = point (start_of n i j (after s)) };
}

-- the rows of a mesh of n times n squares
pub record IsMesh (d : ShellRows) (n : ℕ) (edge point : ℕ → ℕ) : Type 0 where
  pub some : 0 < n
  pub row : (i j : ℕ) (s : Side) → i < n → j < n → slice_get d.rows (number n i j s) ≡ Some (side_row n edge point i j s)
  pub each : (r : ℕ) (x : Row) → slice_get d.rows r ≡ Some x → (i j : ℕ) × (s : Side) × (i < n) × (j < n) × (r ≡ number n i j s)
  pub follows : (i j : ℕ) (s : Side) → i < n → j < n → slice_get d.follows (number n i j s) ≡ Some (number n i j (after s))
  pub points : d.points ≡ []
  pub edges : (e : ℕ) → Has d.edges e → (i j : ℕ) × (s : Side) × (i < n) × (j < n) × (edge (edge_of n i j s) ≡ e)
  pub vertices : (v : ℕ) → Has d.vertices v → (i j : ℕ) × (i < n) × (j < n) × (point (vertex n i j) ≡ v)
  pub one_edge : (a b : ℕ) → a < n * n → b < n * n → (k l : ℕ) → 1 ≤ k → k ≤ 2 → 1 ≤ l → l ≤ 2 → edge (2 * a + k) ≡ edge (2 * b + l) → 2 * a + k ≡ 2 * b + l
  pub one_point : (a b : ℕ) → a < n * n → b < n * n → point (a + 1) ≡ point (b + 1) → a ≡ b

module _ (d : ShellRows) (n : ℕ) (edge point : ℕ → ℕ) (mesh : IsMesh d n edge point) where
  next_in : (i : ℕ) → next n i < n
  next_in i = next_below n i mesh.some

  back_in : (i : ℕ) → i < n → back n i < n
  back_in i lt = back_below n i lt

  -- where the edges of two squares are one
  same_across : (i j a b : ℕ) → i < n → j < n → a < n → b < n → edge (across n i j) ≡ edge (across n a b) → (i ≡ a) × (j ≡ b)
  same_across i j a b li lj la lb e =
      let w : 2 * (i * n + j) + 1 ≡ 2 * (a * n + b) + 1 = mesh.one_edge (i * n + j) (a * n + b) (mul-add-lt i n j n li lj) (mul-add-lt a n b n la lb) 1 1
      (omega arith) (omega arith) (omega arith) (omega arith) e in
      same_from_place i j a b n lj lb (omega (arith, w))

  same_up : (i j a b : ℕ) → i < n → j < n → a < n → b < n → edge (up n i j) ≡ edge (up n a b) → (i ≡ a) × (j ≡ b)
  same_up i j a b li lj la lb e =
      let w : 2 * (i * n + j) + 2 ≡ 2 * (a * n + b) + 2 = mesh.one_edge (i * n + j) (a * n + b) (mul-add-lt i n j n li lj) (mul-add-lt a n b n la lb) 2 2
      (omega arith) (omega arith) (omega arith) (omega arith) e in
      same_from_place i j a b n lj lb (omega (arith, w))

  other_kind : (i j a b : ℕ) → i < n → j < n → a < n → b < n → edge (up n i j) ≡ edge (across n a b) → ⊥
  other_kind i j a b li lj la lb e =
      let w : 2 * (i * n + j) + 2 ≡ 2 * (a * n + b) + 1 = mesh.one_edge (i * n + j) (a * n + b) (mul-add-lt i n j n li lj) (mul-add-lt a n b n la lb) 2 1
      (omega arith) (omega arith) (omega arith) (omega arith) e in
      omega (arith, w)

  same_vertex : (i j a b : ℕ) → i < n → j < n → a < n → b < n → point (vertex n i j) ≡ point (vertex n a b) → (i ≡ a) × (j ≡ b)
  same_vertex i j a b li lj la lb e =
      same_from_place i j a b n lj lb (mesh.one_point (i * n + j) (a * n + b) (mul-add-lt i n j n li lj) (mul-add-lt a n b n la lb) e)

  -- what holds of the place of each side with the edge in the direction holds of each such row
  places_of : (e : ℕ) (way : Bool) (r : ℕ) → ((i j : ℕ) (s : Side) → i < n → j < n → edge (edge_of n i j s) ≡ e → is_along s ≡ way → number n i j s ≡ r)
      → (m : ℕ) (x : Row) → slice_get d.rows m ≡ Some x → x.edge.0 ≡ e → x.along ≡ way → m ≡ r
  places_of e way r side m x at is_edge is_way =
      let k = mesh.each m x at in
      let there : slice_get d.rows m ≡ Some (side_row n edge point k.0 k.1 k.2) = ap (slice_get d.rows) k.5 ∙ mesh.row k.0 k.1 k.2 k.3 k.4 in
      let same : x ≡ side_row n edge point k.0 k.1 k.2 = same_Some x (side_row n edge point k.0 k.1 k.2) (sym at ∙ there) in
      k.5 ∙ side k.0 k.1 k.2 k.3 k.4 (sym (ap (λ (y : Row). y.edge.0) same) ∙ is_edge) (sym (ap (λ (y : Row). y.along) same) ∙ is_way)

  number_same : (i j a b : ℕ) (s : Side) → (i ≡ a) × (j ≡ b) → number n i j s ≡ number n a b s
  number_same i j a b s e = ap (λ k. number n k j s) e.0 ∙ ap (λ k. number n a k s) e.1

  -- ---- PAIR

  across_along : (a b : ℕ) → a < n → b < n → row_count d (edge (across n a b)) true ≡ 1
  across_along a b la lb =
      row_once d (edge (across n a b)) true (number n a b near) (side_row n edge point a b near) (mesh.row a b near la lb) refl refl
      (places_of (edge (across n a b)) true (number n a b near) side)
    where
      side : (i j : ℕ) (s : Side) → i < n → j < n → edge (edge_of n i j s) ≡ edge (across n a b) → is_along s ≡ true → number n i j s ≡ number n a b near
      side i j near li lj e w = number_same i j a b near (same_across i j a b li lj la lb e)
      side i j right li lj e w = absurd (other_kind i (next n j) a b li (next_in j) la lb e)
      side i j far li lj e w = absurd (let v : false ≡ true = w in cc)
      side i j left li lj e w = absurd (let v : false ≡ true = w in cc)

  across_against : (a b : ℕ) → a < n → b < n → row_count d (edge (across n a b)) false ≡ 1
  across_against a b la lb =
      row_once d (edge (across n a b)) false (number n (back n a) b far) (side_row n edge point (back n a) b far) (mesh.row (back n a) b far (back_in a la) lb)
      (ap (λ k. edge (across n k b)) (next_back n a la)) refl
      (places_of (edge (across n a b)) false (number n (back n a) b far) side)
    where
      side : (i j : ℕ) (s : Side) → i < n → j < n → edge (edge_of n i j s) ≡ edge (across n a b) → is_along s ≡ false
          → number n i j s ≡ number n (back n a) b far
      side i j near li lj e w = absurd (let v : true ≡ false = w in cc)
      side i j right li lj e w = absurd (let v : true ≡ false = w in cc)
      side i j far li lj e w = let k = same_across (next n i) j a b (next_in i) lj la lb e in number_same i j (back n a) b far (back_next n i a li k.0, k.1)
      side i j left li lj e w = absurd (other_kind i j a b li lj la lb e)

  up_along : (a b : ℕ) → a < n → b < n → row_count d (edge (up n a b)) true ≡ 1
  up_along a b la lb =
      row_once d (edge (up n a b)) true (number n a (back n b) right) (side_row n edge point a (back n b) right) (mesh.row a (back n b) right la (back_in b lb))
      (ap (λ k. edge (up n a k)) (next_back n b lb)) refl
      (places_of (edge (up n a b)) true (number n a (back n b) right) side)
    where
      side : (i j : ℕ) (s : Side) → i < n → j < n → edge (edge_of n i j s) ≡ edge (up n a b) → is_along s ≡ true → number n i j s ≡ number n a (back n b) right
      side i j near li lj e w = absurd (other_kind a b i j la lb li lj (sym e))
      side i j right li lj e w = let k = same_up i (next n j) a b li (next_in j) la lb e in number_same i j a (back n b) right (k.0, back_next n j b lj k.1)
      side i j far li lj e w = absurd (let v : false ≡ true = w in cc)
      side i j left li lj e w = absurd (let v : false ≡ true = w in cc)

  up_against : (a b : ℕ) → a < n → b < n → row_count d (edge (up n a b)) false ≡ 1
  up_against a b la lb =
      row_once d (edge (up n a b)) false (number n a b left) (side_row n edge point a b left) (mesh.row a b left la lb) refl refl
      (places_of (edge (up n a b)) false (number n a b left) side)
    where
      side : (i j : ℕ) (s : Side) → i < n → j < n → edge (edge_of n i j s) ≡ edge (up n a b) → is_along s ≡ false → number n i j s ≡ number n a b left
      side i j near li lj e w = absurd (let v : true ≡ false = w in cc)
      side i j right li lj e w = absurd (let v : true ≡ false = w in cc)
      side i j far li lj e w = absurd (other_kind a b (next n i) j la lb (next_in i) lj (sym e))
      side i j left li lj e w = number_same i j a b left (same_up i j a b li lj la lb e)

  side_paired : (i j : ℕ) (s : Side) → i < n → j < n → IsPaired d (edge (edge_of n i j s))
  side_paired i j near li lj = (across_along i j li lj, across_against i j li lj)
  side_paired i j right li lj = (up_along i (next n j) li (next_in j), up_against i (next n j) li (next_in j))
  side_paired i j far li lj = (across_along (next n i) j (next_in i) lj, across_against (next n i) j (next_in i) lj)
  side_paired i j left li lj = (up_along i j li lj, up_against i j li lj)

  -- Each edge is paired.
  pub mesh_paired : AllByRecursion (IsPaired d) d.edges
  mesh_paired = All-from (IsPaired d) d.edges (λ e h. let k = mesh.edges e h in subst (IsPaired d) k.5 (side_paired k.0 k.1 k.2 k.3 k.4))

  -- ---- mates and turns

  mate_near : (i j : ℕ) → i < n → j < n → AreMates d (number n i j near) (number n (back n i) j far)
  mate_near i j li lj = record {
    row = side_row n edge point i j near;
    mate = side_row n edge point (back n i) j far;
    at_r = mesh.row i j near li lj;
    at_m = mesh.row (back n i) j far (back_in i li) lj;
    one_edge = ap (λ k. record { 0 = edge (across n k j) }) (sym (next_back n i li));
    opposite = refl;
  }

  mate_far : (i j : ℕ) → i < n → j < n → AreMates d (number n i j far) (number n (next n i) j near)
  mate_far i j li lj = record {
    row = side_row n edge point i j far;
    mate = side_row n edge point (next n i) j near;
    at_r = mesh.row i j far li lj;
    at_m = mesh.row (next n i) j near (next_in i) lj;
    one_edge = refl;
    opposite = refl;
  }

  mate_right : (i j : ℕ) → i < n → j < n → AreMates d (number n i j right) (number n i (next n j) left)
  mate_right i j li lj = record {
    row = side_row n edge point i j right;
    mate = side_row n edge point i (next n j) left;
    at_r = mesh.row i j right li lj;
    at_m = mesh.row i (next n j) left li (next_in j);
    one_edge = refl;
    opposite = refl;
  }

  mate_left : (i j : ℕ) → i < n → j < n → AreMates d (number n i j left) (number n i (back n j) right)
  mate_left i j li lj = record {
    row = side_row n edge point i j left;
    mate = side_row n edge point i (back n j) right;
    at_r = mesh.row i j left li lj;
    at_m = mesh.row i (back n j) right li (back_in j lj);
    one_edge = ap (λ k. record { 0 = edge (up n i k) }) (sym (next_back n j lj));
    opposite = refl;
  }

  -- ---- LINK

  -- the row of each side that starts at the vertex (a, b)
  abbrev corner : ℕ → ℕ → Side → ℕ
  corner a b near = number n a b near
  corner a b right = number n a (back n b) right
  corner a b far = number n (back n a) (back n b) far
  corner a b left = number n (back n a) b left

  turn_near : (a b : ℕ) → a < n → b < n → Turns d (corner a b near) (corner a b left)
  turn_near a b la lb = (number n (back n a) b far, mate_near a b la lb, mesh.follows (back n a) b far (back_in a la) lb)

  turn_left : (a b : ℕ) → a < n → b < n → Turns d (corner a b left) (corner a b far)
  turn_left a b la lb = (
    number n (back n a) (back n b) right,
    mate_left (back n a) b (back_in a la) lb,
    mesh.follows (back n a) (back n b) right
        (back_in a la) (back_in b lb),
  )

  turn_far : (a b : ℕ) → a < n → b < n → Turns d (corner a b far) (corner a b right)
  turn_far a b la lb =
      subst (λ k. Turns d (corner a b far) (number n k (back n b) right)) (next_back n a la) (
        number n (next n (back n a)) (back n b) near,
        mate_far (back n a) (back n b) (back_in a la) (back_in b lb),
        mesh.follows (next n (back n a)) (back n b)
            near (next_in (back n a)) (back_in b lb),
      )

  turn_right : (a b : ℕ) → a < n → b < n → Turns d (corner a b right) (corner a b near)
  turn_right a b la lb =
      subst (λ k. Turns d (corner a b right) (number n a k near)) (next_back n b lb)
      (number n a (next n (back n b)) left, mate_right a (back n b) la (back_in b lb), mesh.follows a (next n (back n b)) left la (next_in (back n b)))

  right_to_near : (a b : ℕ) → a < n → b < n → LeadsTo (Turns d) (corner a b right) (corner a b near)
  right_to_near a b la lb = leads_one (Turns d) (corner a b right) (corner a b near) (corner a b near) (turn_right a b la lb)
      (leads_here (Turns d) (corner a b near))

  far_to_near : (a b : ℕ) → a < n → b < n → LeadsTo (Turns d) (corner a b far) (corner a b near)
  far_to_near a b la lb = leads_one (Turns d) (corner a b far) (corner a b right) (corner a b near) (turn_far a b la lb) (right_to_near a b la lb)

  to_near : (a b : ℕ) (s : Side) → a < n → b < n → LeadsTo (Turns d) (corner a b s) (corner a b near)
  to_near a b near la lb = leads_here (Turns d) (corner a b near)
  to_near a b right la lb = right_to_near a b la lb
  to_near a b far la lb = far_to_near a b la lb
  to_near a b left la lb = leads_one (Turns d) (corner a b left) (corner a b far) (corner a b near) (turn_left a b la lb) (far_to_near a b la lb)

  near_to_left : (a b : ℕ) → a < n → b < n → LeadsTo (Turns d) (corner a b near) (corner a b left)
  near_to_left a b la lb = leads_last (Turns d) (corner a b near) (corner a b near) (corner a b left) (leads_here (Turns d) (corner a b near))
      (turn_near a b la lb)

  near_to_far : (a b : ℕ) → a < n → b < n → LeadsTo (Turns d) (corner a b near) (corner a b far)
  near_to_far a b la lb = leads_last (Turns d) (corner a b near) (corner a b left) (corner a b far) (near_to_left a b la lb) (turn_left a b la lb)

  from_near : (a b : ℕ) (s : Side) → a < n → b < n → LeadsTo (Turns d) (corner a b near) (corner a b s)
  from_near a b near la lb = leads_here (Turns d) (corner a b near)
  from_near a b left la lb = near_to_left a b la lb
  from_near a b far la lb = near_to_far a b la lb
  from_near a b right la lb = leads_last (Turns d) (corner a b near) (corner a b far) (corner a b right) (near_to_far a b la lb) (turn_far a b la lb)

  side_starts : (a b : ℕ) → a < n → b < n → (i j : ℕ) (s : Side) → i < n → j < n → point (start_of n i j s) ≡ point (vertex n a b)
      → number n i j s ≡ corner a b s
  side_starts a b la lb i j near li lj e = number_same i j a b near (same_vertex i j a b li lj la lb e)
  side_starts a b la lb i j right li lj e = let k = same_vertex i (next n j) a b li (next_in j) la lb e in number_same i j a (back n b) right
      (k.0, back_next n j b lj k.1)
  side_starts a b la lb i j far li lj e =
      let k = same_vertex (next n i) (next n j) a b (next_in i) (next_in j) la lb e in
      number_same i j (back n a) (back n b) far (back_next n i a li k.0, back_next n j b lj k.1)
  side_starts a b la lb i j left li lj e = let k = same_vertex (next n i) j a b (next_in i) lj la lb e in number_same i j (back n a) b left
      (back_next n i a li k.0, k.1)

  start_is : (a b : ℕ) → a < n → b < n → (r : ℕ) → StartsAt d (point (vertex n a b)) r → (s : Side) × (r ≡ corner a b s)
  start_is a b la lb r start =
      let k = mesh.each r start.0 start.1 in
      let there : slice_get d.rows r ≡ Some (side_row n edge point k.0 k.1 k.2) = ap (slice_get d.rows) k.5 ∙ mesh.row k.0 k.1 k.2 k.3 k.4 in
      let same : start.0 ≡ side_row n edge point k.0 k.1 k.2 = same_Some start.0 (side_row n edge point k.0 k.1 k.2) (sym start.1 ∙ there) in
      (k.2, k.5 ∙ side_starts a b la lb k.0 k.1 k.2 k.3 k.4 (sym (ap (λ (y : Row). y.from.0) same) ∙ start.2))

  vertex_linked : (a b : ℕ) → a < n → b < n → IsLinked d (point (vertex n a b))
  vertex_linked a b la lb = inl (record {
    some = (number n a b near, (side_row n edge point a b near, mesh.row a b near la lb, refl));
    one_cycle = λ r s at_r at_s.
        let x = start_is a b la lb r at_r in
        let y = start_is a b la lb s at_s in
        let chain : LeadsTo (Turns d) (corner a b x.0) (corner a b y.0) =
        leads_trans (Turns d) (corner a b x.0) (corner a b near) (corner a b y.0) (to_near a b x.0 la lb).0 (to_near a b x.0 la lb).1 (from_near a b y.0 la lb)
        in
        subst (λ k. LeadsTo (Turns d) k s) (sym x.1) (subst (λ k. LeadsTo (Turns d) (corner a b x.0) k) (sym y.1) chain);
    no_point = ap (λ (ps : List (LoopAt × ℕ)). count_by (λ (p : LoopAt × ℕ). p.1 == point (vertex n a b)) ps) mesh.points;
  })

  -- Each vertex is linked.
  pub mesh_linked : AllByRecursion (IsLinked d) d.vertices
  mesh_linked = All-from (IsLinked d) d.vertices (λ v h. let k = mesh.vertices v h in subst (IsLinked d) k.4 (vertex_linked k.0 k.1 k.2 k.3))

  -- ---- REACH

  on_face : (i j : ℕ) (s : Side) → i < n → j < n → OnFace d (i * n + j) (number n i j s)
  on_face i j s li lj = (side_row n edge point i j s, mesh.row i j s li lj, refl)

  beside : (i j : ℕ) → i < n → j < n → AreNeighbours d (i * n + j) (i * n + next n j)
  beside i j li lj = (number n i j right, number n i (next n j) left, mate_right i j li lj, on_face i j right li lj, on_face i (next n j) left li (next_in j))

  above : (i j : ℕ) → i < n → j < n → AreNeighbours d (i * n + j) (next n i * n + j)
  above i j li lj = (number n i j far, number n (next n i) j near, mate_far i j li lj, on_face i j far li lj, on_face (next n i) j near (next_in i) lj)

  reach_up : (i : ℕ) → i < n → IsReached d (i * n + 0)
  reach_up zero lt = let e : 0 ≡ 0 * n + 0 = omega arith in subst (IsReached d) e (leads_here (AreNeighbours d) 0)
  reach_up (suc i) lt =
      let low : i < n = omega (arith, lt) in
      let step : next n i ≡ suc i = next_small n i (omega (arith, lt)) ∙ omega arith in
      leads_last (AreNeighbours d) 0 (i * n + 0) (suc i * n + 0) (reach_up i low)
      (subst (λ k. AreNeighbours d (i * n + 0) (k * n + 0)) step (above i 0 low mesh.some))

  reach : (i j : ℕ) → i < n → j < n → IsReached d (i * n + j)
  reach i zero li lj = reach_up i li
  reach i (suc j) li lj =
      let low : j < n = omega (arith, lj) in
      let step : next n j ≡ suc j = next_small n j (omega (arith, lj)) ∙ omega arith in
      leads_last (AreNeighbours d) 0 (i * n + j) (i * n + suc j) (reach i j li low)
      (subst (λ k. AreNeighbours d (i * n + j) (i * n + k)) step (beside i j li low))

  -- Each face is reached.
  pub mesh_reached : AllByRecursion (IsReached d) (numbers_from 0 (n * n))
  mesh_reached = All-from (IsReached d) (numbers_from 0 (n * n)) (λ k h.
      let below : k < 0 + n * n = (number_below 0 (n * n) k h).1 in
      let lt : k < n * n = omega (arith, below) in
      subst (IsReached d) (div-add-mod' k n) (reach (k / n) (k % n) (div_below k n n mesh.some lt) (mod-lt k mesh.some)))
