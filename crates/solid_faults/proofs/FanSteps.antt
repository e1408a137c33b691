-- The fans that are counted so far at each vertex, and those of the rows that are left.
use Rattle.std.specs.Prelude.{◌≡◌, ◌≢◌, ◌<◌, ◌≤◌, ◌+◌, ◌-◌, ◌^◌, ◌==◌, ◌&&◌, ℕ, suc, Bool, true, false, Contains, List, [], ◌∷◌, ◌++◌, length, Some, slice_get}
use Rattle.std.specs.Prelude.{slice_set, replicate, if◌then◌else◌}
use Rattle.std.proofs.Common.{refl, sym, ◌∙◌, ap, subst, arith, ⊎_elim, get_or, drop}
use Rattle.std.proofs.lemmas.Bool.Decides.{eqb_tells}
use Rattle.std.proofs.lemmas.List.{drop_all, get_or-replicate, length-replicate, length-set}
use Rattle.std.proofs.lemmas.Option.{slice_get_within, get_or_from_slice_get}
use Rattle.solid_data.proofs.Members.{All-at, has_get, split_at, count_by-total, Has-from_Contains}
use Rattle.solid_data.specs.declared.solid.LoopAt.{LoopAt}
use Rattle.solid_data.specs.declared.spanning.Span.{Span}
use Rattle.solid_data.specs.Cells.{Celled}
use Rattle.solid_data.specs.Ranges.{IsWithin, IsSpanOf}
use Rattle.edge_uses.specs.declared.row.Row.{Row}
use Rattle.edge_uses.specs.ShellRows.{ShellRows, AreRows}
use Rattle.edge_uses.proofs.Counting.{times, times_few}
use Rattle.edge_uses.proofs.Tallies.{one_if, set_same, set_other}
use Rattle.edge_uses.specs.RowRelations.{point_count}
use Rattle.solid_faults.specs.declared.fan.Unlinked.{Unlinked}
use Rattle.solid_faults.specs.FanCells.{IsOnVertices, counted_more}
use Rattle.solid_faults.specs.Fans.{fans_from, fan_count, added, AreFanCounts, ArePointCounts, unlinked_at, vertex_unlinked}
use Rattle.shell_components.proofs.Joined.{has_place}

abbrev pub vertex_of : LoopAt × ℕ → ℕ
vertex_of p = p.1

pub fans_few : (v i : ℕ) (rs : List Row) (fs : List ℕ) → fans_from v i rs fs ≤ length rs
fans_few v i [] fs = omega arith
fans_few v i (r ∷ rs) [] = omega arith
fans_few v i (r ∷ rs) (f ∷ fs) = by_test ((r.from.0 == v) && (f == i)) (fans_few v (i + 1) rs fs)
  where
    by_test : (b : Bool) → fans_from v (i + 1) rs fs ≤ length rs → (if b then 1 else 0) + fans_from v (i + 1) rs fs ≤ suc (length rs)
    by_test true h = omega (arith, h)
    by_test false h = omega (arith, h)

-- what is counted so far
abbrev pub CountedSoFar : ShellRows → List ℕ → ℕ → ℕ → ℕ → List ℕ → Type 0
CountedSoFar d leasts low count i counts = (k : ℕ) → k < count → get_or counts k 0 + fans_from (low + k) i (drop i d.rows) (drop i leasts)
    ≡ fan_count d leasts (low + k)

and_false : (b : Bool) → (b && false) ≡ false
and_false true = refl
and_false false = refl

-- at each place one is added where the row is the least of its fan and starts there
pub added_at : (counts : List ℕ) (low from f i k count : ℕ) → length counts ≡ count → low ≤ from → from - low < count → k < count → (wanted : Bool)
    → wanted ≡ (f == i)
    → get_or (added counts (from - low) wanted) k 0 ≡ get_or counts k 0 + (if (from == low + k) && (f == i) then 1 else 0)
added_at counts low from f i k count long le inside lt true e =
    ⊎_elim
    (λ same.
    let at : from - low ≡ k = omega (arith, same.1, le) in
    let new : get_or (slice_set counts (from - low) (get_or counts (from - low) 0 + 1)) k 0 ≡ get_or counts k 0 + 1 =
    subst (λ n. get_or (slice_set counts (from - low) (get_or counts (from - low) 0 + 1)) n 0 ≡ get_or counts n 0 + 1) at
    (set_same counts (from - low) (get_or counts (from - low) 0 + 1) 0 (omega (arith, inside, long))) in
    new ∙ ap (λ b. get_or counts k 0 + (if b then 1 else 0)) (sym (ap (λ b. b && (f == i)) same.0 ∙ sym e)))
    (λ other.
    let apart : (from - low) ≢ k = λ h. other.1 (omega (arith, h, le)) in
    let none : get_or counts k 0 ≡ get_or counts k 0 + 0 = omega arith in
    set_other counts (from - low) k (get_or counts (from - low) 0 + 1) 0 apart
    ∙ (none ∙ ap (λ b. get_or counts k 0 + (if b then 1 else 0)) (sym (ap (λ b. b && (f == i)) other.0))))
    (eqb_tells from (low + k))
added_at counts low from f i k count long le inside lt false e =
    let none : get_or counts k 0 ≡ get_or counts k 0 + 0 = omega arith in
    none ∙ ap (λ b. get_or counts k 0 + (if b then 1 else 0)) (sym (ap (λ b. (from == low + k) && b) (sym e) ∙ and_false (from == low + k)))

pub fan_step : (d : ShellRows) (leasts : List ℕ) (low count i : ℕ) (row : Row) (f : ℕ) (old new : List ℕ) (wanted : Bool) → slice_get d.rows i ≡ Some row
    → slice_get leasts i ≡ Some f → length old ≡ count
    → low ≤ row.from.0 → row.from.0 - low < count → wanted ≡ (f == i) → new ≡ added old (row.from.0 - low) wanted → CountedSoFar d leasts low count i old
    → CountedSoFar d leasts low count (i + 1) new
fan_step d leasts low count i row f old new wanted at_row at_least long le inside is e h k lt =
    let one : ℕ = if (row.from.0 == low + k) && (f == i) then 1 else 0 in
    let split : fans_from (low + k) i (drop i d.rows) (drop i leasts) ≡ one + fans_from (low + k) (i + 1) (drop (i + 1) d.rows) (drop (i + 1) leasts) =
    ap (λ rs. fans_from (low + k) i rs (drop i leasts)) (split_at d.rows i row at_row) ∙ ap (λ fs. fans_from (low + k) i (row ∷ drop (i + 1) d.rows) fs)
    (split_at leasts i f at_least) in
    let more : get_or new k 0 ≡ get_or old k 0 + one = ap (λ xs. get_or xs k 0) e ∙ added_at old low row.from.0 f i k count long le inside lt wanted is in
    omega (arith, h k lt, split, more)

pub fans_done : (d : ShellRows) (leasts : List ℕ) (low count i : ℕ) (counts : List ℕ) → length d.rows ≤ i → CountedSoFar d leasts low count i counts
    → AreFanCounts d leasts low count counts
fans_done d leasts low count i counts past h k lt =
    let none : fans_from (low + k) i (drop i d.rows) (drop i leasts) ≡ 0 = ap (λ rs. fans_from (low + k) i rs (drop i leasts)) (drop_all i d.rows past) in
    omega (arith, h k lt, none)

pub so_far_few : (d : ShellRows) (leasts : List ℕ) (low count i : ℕ) (counts : List ℕ) (k : ℕ) → CountedSoFar d leasts low count i counts → k < count
    → get_or counts k 0 ≤ length d.rows
so_far_few d leasts low count i counts k h lt = omega (arith, h k lt, fans_few (low + k) 0 d.rows leasts)

pub member_within : (span : Span) (ns : List ℕ) (n : ℕ) → IsSpanOf span ns → Contains ns n → IsWithin span n
member_within span ns n h has =
    let k = has_place ns n (Has-from_Contains ns n has) in
    subst (IsWithin span) (get_or_from_slice_get ns k.0 n n k.1) (h.holds k.0 n (slice_get_within ns k.0 n k.1))

pub vertex_within : (d : ShellRows) (span : Span) (i v : ℕ) → IsSpanOf span d.vertices → slice_get d.vertices i ≡ Some v → IsWithin span v
vertex_within d span i v h at = subst (IsWithin span) (get_or_from_slice_get d.vertices i v v at) (h.holds i v (slice_get_within d.vertices i v at))

pub from_within : (d : ShellRows) (span : Span) (i : ℕ) (row : Row) → AreRows d → IsSpanOf span d.vertices → slice_get d.rows i ≡ Some row
    → IsWithin span row.from.0
from_within d span i row rows h at =
    member_within span d.vertices row.from.0 h
    (All-at (λ (r : Row). Contains d.vertices r.from.0 × Contains d.vertices r.to.0) d.rows rows.vertices_hold row (has_get d.rows i row at)).0

pub length-added : (counts : List ℕ) (k : ℕ) (wanted : Bool) → length (added counts k wanted) ≡ length counts
length-added counts k true = length-set counts k (get_or counts k 0 + 1)
length-added counts k false = refl

-- the loops without an edge that are counted so far
abbrev pub PointsSoFar : ShellRows → ℕ → ℕ → ℕ → List ℕ → Type 0
PointsSoFar d low count i counts = (k : ℕ) → k < count → get_or counts k 0 + times vertex_of (low + k) (drop i d.points) ≡ times vertex_of (low + k) d.points

and_true : (b : Bool) → (b && true) ≡ b
and_true true = refl
and_true false = refl

one_more_point : (b : Bool) → ◌≡◌ {A = ℕ} (if b then 1 else 0) (one_if b)
one_more_point true = refl
one_more_point false = refl

pub point_step : (d : ShellRows) (low count i v : ℕ) (at : LoopAt) (old new : List ℕ) → slice_get d.points i ≡ Some (at, v) → length old ≡ count → low ≤ v
    → v - low < count → new ≡ added old (v - low) true → PointsSoFar d low count i old
    → PointsSoFar d low count (i + 1) new
point_step d low count i v at old new here long le inside e h k lt =
    let split : times vertex_of (low + k) (drop i d.points) ≡ one_if (v == low + k) + times vertex_of (low + k) (drop (i + 1) d.points) =
    ap (times vertex_of (low + k)) (split_at d.points i (at, v) here) in
    let more : get_or new k 0 ≡ get_or old k 0 + one_if (v == low + k) =
    ap (λ xs. get_or xs k 0) e
    ∙ (added_at old low v 0 0 k count long le inside lt true refl
    ∙ (ap (λ b. get_or old k 0 + (if b then 1 else 0)) (and_true (v == low + k)) ∙ ap (λ n. get_or old k 0 + n) (one_more_point (v == low + k)))) in
    omega (arith, h k lt, split, more)

pub points_done : (d : ShellRows) (low count i : ℕ) (counts : List ℕ) → length d.points ≤ i → PointsSoFar d low count i counts
    → ArePointCounts d low count counts
points_done d low count i counts past h k lt =
    let none : times vertex_of (low + k) (drop i d.points) ≡ 0 = ap (times vertex_of (low + k)) (drop_all i d.points past) in
    omega (arith, h k lt, none, count_by-total (λ (p : LoopAt × ℕ). p.1 == low + k) d.points)

pub points_few : (d : ShellRows) (low count i : ℕ) (counts : List ℕ) (k : ℕ) → PointsSoFar d low count i counts → k < count
    → get_or counts k 0 ≤ length d.points
points_few d low count i counts k h lt = omega (arith, h k lt, times_few vertex_of (low + k) d.points)

pub point_within : (d : ShellRows) (span : Span) (i v : ℕ) (at : LoopAt) → AreRows d → IsSpanOf span d.vertices → slice_get d.points i ≡ Some (at, v)
    → IsWithin span v
point_within d span i v at rows h here =
    member_within span d.vertices v h (All-at (λ (p : LoopAt × ℕ). Contains d.vertices p.1) d.points rows.points_hold (at, v) (has_get d.points i (at, v) here))

-- what is pushed for a vertex is what is counted there
pub unlinked_pushed : (d : ShellRows) (leasts : List ℕ) (fans points : Celled ℕ) (i v a b : ℕ) (old new : List Unlinked) → IsOnVertices d fans
    → AreFanCounts d leasts fans.span.least fans.span.count fans.cells
    → IsOnVertices d points → ArePointCounts d points.span.least points.span.count points.cells
    → slice_get d.vertices i ≡ Some v → a ≡ get_or fans.cells (v - fans.span.least) 0 → b ≡ get_or points.cells (v - points.span.least) 0
    → new ≡ old ++ unlinked_at v a b → new ≡ old ++ vertex_unlinked d leasts v
unlinked_pushed d leasts fans points i v a b old new on_fans is_fans on_points is_points at ea eb e =
    let w : IsWithin fans.span v = vertex_within d fans.span i v on_fans.span at in
    let u : IsWithin points.span v = vertex_within d points.span i v on_points.span at in
    let fan : a ≡ fan_count d leasts v =
    ea ∙ (is_fans (v - fans.span.least) (omega (arith, w.0, w.1))
    ∙ ap (λ n. fan_count d leasts n) (let back : fans.span.least + (v - fans.span.least) ≡ v = omega (arith, w.0) in back)) in
    let point : b ≡ point_count d v =
    eb ∙ (is_points (v - points.span.least) (omega (arith, u.0, u.1))
    ∙ ap (λ n. point_count d n) (let back : points.span.least + (v - points.span.least) ≡ v = omega (arith, u.0) in back)) in
    e ∙ (ap (λ n. old ++ unlinked_at v n b) fan ∙ ap (λ n. old ++ unlinked_at v (fan_count d leasts v) n) point)

-- the same number for each vertex that occurs
pub on_vertices : (d : ShellRows) (c : Celled ℕ) → AreRows d → c.numbers ≡ d.vertices → IsSpanOf c.span d.vertices → c.blank ≡ 0 → IsOnVertices d c
on_vertices d c rows numbers span blank = record { rows = rows; numbers = numbers; span = span; blank = blank }

blank_long : (c : Celled ℕ) → c.cells ≡ replicate c.span.count 0 → length c.cells ≡ c.span.count
blank_long c e = ap (λ xs. length xs) e ∙ length-replicate c.span.count 0

blank_zero : (c : Celled ℕ) (k : ℕ) → c.cells ≡ replicate c.span.count 0 → k < c.span.count → get_or c.cells k 0 ≡ 0
blank_zero c k e lt = ap (λ xs. get_or xs k 0) e ∙ get_or-replicate c.span.count k 0 0 lt

-- the fans that are counted before row i
pub record FansBefore (d : ShellRows) (leasts : List ℕ) (i : ℕ) (c : Celled ℕ) : Type 0 where
  pub on : IsOnVertices d c
  pub long : length c.cells ≡ c.span.count
  pub counted : CountedSoFar d leasts c.span.least c.span.count i c.cells

pub fans_first : (d : ShellRows) (leasts : List ℕ) (c : Celled ℕ) → IsOnVertices d c → c.cells ≡ replicate c.span.count 0 → FansBefore d leasts 0 c
fans_first d leasts c on e = record { on = on; long = blank_long c e; counted = λ k lt. omega (arith, blank_zero c k e lt) }

module _ (d : ShellRows) (leasts : List ℕ) (i : ℕ) (c : Celled ℕ) (row : Row) (t : FansBefore d leasts i c) (at : slice_get d.rows i ≡ Some row) where
  pub from_known : Contains c.numbers row.from.0
  from_known = subst (λ ns. Contains ns row.from.0) (sym t.on.numbers)
      (All-at (λ (r : Row). Contains d.vertices r.from.0 × Contains d.vertices r.to.0) d.rows t.on.rows.vertices_hold row (has_get d.rows i row at)).0

  pub from_inside : IsWithin c.span row.from.0
  from_inside = from_within d c.span i row t.on.rows t.on.span at

  pub from_few : get_or c.cells (row.from.0 - c.span.least) 0 < 2 ^ 29
  from_few =
      let w = from_inside in
      let few = so_far_few d leasts c.span.least c.span.count i c.cells (row.from.0 - c.span.least) t.counted (omega (arith, w.0, w.1)) in
      omega (arith, few, t.on.rows.few)

  pub fans_next : (f : ℕ) (wanted : Bool) (new : Celled ℕ) → slice_get leasts i ≡ Some f → wanted ≡ (f == i) → new ≡ counted_more c row.from.0 wanted
      → FansBefore d leasts (i + 1) new
  fans_next f wanted new at_least is_wanted is =
      let w = from_inside in
      subst (FansBefore d leasts (i + 1)) (sym is) (record {
        on = record { rows = t.on.rows; numbers = t.on.numbers; span = t.on.span; blank = t.on.blank };
        long = length-added c.cells (row.from.0 - c.span.least) wanted ∙ t.long;
        counted = fan_step d leasts c.span.least c.span.count i row f c.cells (added c.cells (row.from.0 - c.span.least) wanted) wanted at at_least t.long w.0
            (omega (arith, w.0, w.1)) is_wanted refl t.counted;
      })

-- the loops without an edge that are counted before the i-th
pub record PointsBefore (d : ShellRows) (i : ℕ) (c : Celled ℕ) : Type 0 where
  pub on : IsOnVertices d c
  pub long : length c.cells ≡ c.span.count
  pub counted : PointsSoFar d c.span.least c.span.count i c.cells

pub points_first : (d : ShellRows) (c : Celled ℕ) → IsOnVertices d c → c.cells ≡ replicate c.span.count 0 → PointsBefore d 0 c
points_first d c on e = record { on = on; long = blank_long c e; counted = λ k lt. omega (arith, blank_zero c k e lt) }

module _ (d : ShellRows) (i : ℕ) (c : Celled ℕ) (v : ℕ) (place : LoopAt) (t : PointsBefore d i c) (at : slice_get d.points i ≡ Some (place, v)) where
  pub point_known : Contains c.numbers v
  point_known = subst (λ ns. Contains ns v) (sym t.on.numbers)
      (All-at (λ (p : LoopAt × ℕ). Contains d.vertices p.1) d.points t.on.rows.points_hold (place, v) (has_get d.points i (place, v) at))

  pub point_inside : IsWithin c.span v
  point_inside = point_within d c.span i v place t.on.rows t.on.span at

  pub point_few : get_or c.cells (v - c.span.least) 0 < 2 ^ 29
  point_few =
      let w = point_inside in
      let few = points_few d c.span.least c.span.count i c.cells (v - c.span.least) t.counted (omega (arith, w.0, w.1)) in
      omega (arith, few, t.on.rows.few_points)

  pub points_next : (new : Celled ℕ) → new ≡ counted_more c v true → PointsBefore d (i + 1) new
  points_next new is =
      let w = point_inside in
      subst (PointsBefore d (i + 1)) (sym is) (record {
        on = record { rows = t.on.rows; numbers = t.on.numbers; span = t.on.span; blank = t.on.blank };
        long = length-added c.cells (v - c.span.least) true ∙ t.long;
        counted = point_step d c.span.least c.span.count i v place c.cells (added c.cells (v - c.span.least) true) at t.long w.0 (omega (arith, w.0, w.1)) refl
            t.counted;
      })
