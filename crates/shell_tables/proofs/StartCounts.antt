-- What has been seen of each vertex, row by row and point by point.
use Rattle.std.specs.Prelude.{◌≡◌, ◌≢◌, ◌<◌, ◌≤◌, ◌+◌, ◌-◌, ◌==◌, ◌⊎◌, ℕ, true, false, List, length, slice_set, slice_get, Some, Contains, if◌then◌else◌}
use Rattle.std.specs.List.{AllByRecursion}
use Rattle.std.proofs.Common.{sym, ◌∙◌, ap, subst, arith, inl, inr, ⊎_elim, get_or, drop}
use Rattle.std.proofs.lemmas.Bool.Decides.{eqb_tells}
use Rattle.std.proofs.lemmas.Option.{slice_get_within, same_Some}
use Rattle.std.proofs.lemmas.List.{drop_all}
use Rattle.std.proofs.lemmas.Bool.{cases_lt}
use Rattle.solid_data.specs.declared.solid.LoopAt.{LoopAt}
use Rattle.solid_data.specs.declared.spanning.Span.{Span}
use Rattle.solid_data.specs.Ranges.{IsWithin}
use Rattle.edge_uses.specs.declared.row.Row.{Row}
use Rattle.edge_uses.specs.ShellRows.{ShellRows}
use Rattle.edge_uses.specs.RowRelations.{StartsAt}
use Rattle.solid_data.proofs.Members.{Has, Contains-from_Has, All-at, count_by-total, split_at, has_get}
use Rattle.edge_uses.proofs.Tallies.{one_if, set_same, set_other}
use Rattle.edge_uses.proofs.Counting.{times, times_few}
use Rattle.shell_tables.specs.declared.starting.Starts.{Starts}
use Rattle.shell_tables.specs.declared.starting.Points.{Points}
use Rattle.shell_tables.specs.Starting.{no_starts, one_start_more, AreStarts, no_points, one_point_more, ArePoints}

split_times : {A : Type 0} (f : A → ℕ) (v : ℕ) (xs : List A) (i : ℕ) (x : A) → slice_get xs i ≡ Some x → times f v (drop i xs) ≡ one_if (f x == v)
    + times f v (drop (i + 1) xs)
split_times f v xs i x h = ap (times f v) (split_at xs i x h)

abbrev pub from_of : Row → ℕ
from_of r = r.from.0

pub record StartsBefore (d : ShellRows) (i v : ℕ) (m : Starts) : Type 0 where
  pub count : m.count + times from_of v (drop i d.rows) ≡ times from_of v d.rows
  pub first : 0 < m.count → StartsAt d v m.first × (m.first < i)
  pub least : (x : ℕ) → x < i → StartsAt d v x → (0 < m.count) × (m.first ≤ x)

pub starts_none : (d : ShellRows) (v : ℕ) → StartsBefore d 0 v no_starts
starts_none d v = record { count = omega arith; first = λ h. absurd (omega (arith, h)); least = λ x h at. absurd (omega (arith, h)) }

pub starts_few : (d : ShellRows) (i v n : ℕ) (m : Starts) → StartsBefore d i v m → length d.rows < n → m.count < n
starts_few d i v n m h few = omega (arith, h.count, few, times_few from_of v d.rows)

pub starts_done : (d : ShellRows) (i v : ℕ) (m : Starts) → length d.rows ≤ i → StartsBefore d i v m → AreStarts d v m
starts_done d i v m past h =
    let k : m.count + 0 ≡ times from_of v d.rows = subst (λ rs. m.count + times from_of v rs ≡ times from_of v d.rows) (drop_all i d.rows past) h.count in
    record {
      count = omega (arith, k, count_by-total (λ (r : Row). r.from.0 == v) d.rows);
      first = λ p. (h.first p).0;
      least = λ x at. h.least x (omega (arith, past, slice_get_within d.rows x at.0 at.1)) at;
    }

starts_other : (d : ShellRows) (i v : ℕ) (m : Starts) (row : Row) → slice_get d.rows i ≡ Some row → (row.from.0 == v) ≡ false → row.from.0 ≢ v
    → StartsBefore d i v m → StartsBefore d (i + 1) v m
starts_other d i v m row at differ ne h = record {
  count = omega (arith, h.count, split_times from_of v d.rows i row at, ap one_if differ);
  first = λ p. ((h.first p).0, omega (arith, (h.first p).1));
  least = λ x lt s. ⊎_elim (λ low. h.least x low s)
      (λ le. let e : x ≡ i = omega (arith, le, lt) in absurd
      (ne (ap (λ (r : Row). r.from.0) (same_Some row s.0 (sym at ∙ (ap (λ k. slice_get d.rows k) (sym e) ∙ s.1))) ∙ s.2))) (cases_lt x i);
}

starts_this : (d : ShellRows) (i v : ℕ) (m : Starts) (row : Row) → slice_get d.rows i ≡ Some row → (row.from.0 == v) ≡ true → row.from.0 ≡ v
    → StartsBefore d i v m → StartsBefore d (i + 1) v (one_start_more m i)
starts_this d i v m row at alike same h = by_count (eqb_tells m.count 0)
  where
    counted : m.count + 1 + times from_of v (drop (i + 1) d.rows) ≡ times from_of v d.rows
    counted = omega (arith, h.count, split_times from_of v d.rows i row at, ap one_if alike)

    before : (x : ℕ) → x < i → StartsAt d v x → m.count ≡ 0 → ⊥
    before x lt s e = omega (arith, (h.least x lt s).0, e)

    old_first : (x : ℕ) → x < i + 1 → StartsAt d v x → 0 < m.count → m.first ≤ x
    old_first x lt s p = ⊎_elim (λ low. (h.least x low s).1) (λ high. omega (arith, (h.first p).1, high)) (cases_lt x i)

    by_count : (((m.count == 0) ≡ true) × (m.count ≡ 0)) ⊎ (((m.count == 0) ≡ false) × (m.count ≢ 0)) → StartsBefore d (i + 1) v (one_start_more m i)
    by_count (inl y) = subst (λ b. StartsBefore d (i + 1) v (record { count = m.count + 1; first = (if b then i else m.first) })) (sym y.0) (record {
      count = counted;
      first = λ p. ((row, at, same), omega arith);
      least = λ x lt s. (omega arith, ⊎_elim (λ low. absurd (before x low s y.1)) (λ high. high) (cases_lt x i));
    })
    by_count (inr n) = let p : 0 < m.count = omega (arith, n.1) in subst
        (λ b. StartsBefore d (i + 1) v (record { count = m.count + 1; first = (if b then i else m.first) })) (sym n.0) (record {
          count = counted;
          first = λ q. ((h.first p).0, omega (arith, (h.first p).1));
          least = λ x lt s. (omega arith, old_first x lt s p);
        })

-- one row is counted
pub starts_step : (d : ShellRows) (i : ℕ) (span : Span) (row : Row) (old : List Starts) (was new : Starts) → slice_get d.rows i ≡ Some row
    → length old ≡ span.count
    → AllByRecursion (λ (r : Row). IsWithin span r.from.0) d.rows → ((v : ℕ) → IsWithin span v → StartsBefore d i v (get_or old (v - span.least) no_starts))
    → was ≡ get_or old (row.from.0 - span.least) no_starts → new ≡ one_start_more was i → (v : ℕ) → IsWithin span v
    → StartsBefore d (i + 1) v (get_or (slice_set old (row.from.0 - span.least) new) (v - span.least) no_starts)
starts_step d i span row old was new at long below each is_was is_new v low = by_vertex (eqb_tells row.from.0 v)
  where
    in_span : IsWithin span row.from.0
    in_span = All-at (λ (r : Row). IsWithin span r.from.0) d.rows below row (has_get d.rows i row at)

    k : ℕ
    k = row.from.0 - span.least

    in_old : k < length old
    in_old = omega (arith, long, in_span.0, in_span.1)

    known : was ≡ get_or old k no_starts
    known = is_was

    by_vertex : (((row.from.0 == v) ≡ true) × (row.from.0 ≡ v)) ⊎ (((row.from.0 == v) ≡ false) × (row.from.0 ≢ v))
        → StartsBefore d (i + 1) v (get_or (slice_set old (row.from.0 - span.least) new) (v - span.least) no_starts)
    by_vertex (inl y) =
        let place : k ≡ v - span.least = ap (λ n. n - span.least) y.1 in
        let before : StartsBefore d i v was = subst (StartsBefore d i v) (sym (known ∙ ap (λ n. get_or old n no_starts) place)) (each v low) in
        let there : get_or (slice_set old k new) (v - span.least) no_starts ≡ new = subst (λ n. get_or (slice_set old k new) n no_starts ≡ new) place
        (set_same old k new no_starts in_old) in
        subst (StartsBefore d (i + 1) v) (sym (there ∙ is_new)) (starts_this d i v was row at y.0 y.1 before)
    by_vertex (inr n) =
        let apart : k ≢ v - span.least = λ e. n.1 (omega (arith, e, in_span.0, low.0)) in
        subst (StartsBefore d (i + 1) v) (sym (set_other old k (v - span.least) new no_starts apart))
        (starts_other d i v (get_or old (v - span.least) no_starts) row at n.0 n.1 (each v low))

pub starts_room : (d : ShellRows) (i : ℕ) (span : Span) (n : ℕ) (row : Row) (old : List Starts) (was : Starts) → slice_get d.rows i ≡ Some row
    → length old ≡ span.count
    → AllByRecursion (λ (r : Row). IsWithin span r.from.0) d.rows → ((v : ℕ) → IsWithin span v → StartsBefore d i v (get_or old (v - span.least) no_starts))
    → was ≡ get_or old (row.from.0 - span.least) no_starts → length d.rows < n → was.count < n
starts_room d i span n row old was at long below each is_was few =
    let low : IsWithin span row.from.0 = All-at (λ (r : Row). IsWithin span r.from.0) d.rows below row (has_get d.rows i row at) in
    let known : was ≡ get_or old (row.from.0 - span.least) no_starts = is_was in
    starts_few d i row.from.0 n was (subst (StartsBefore d i row.from.0) (sym known) (each row.from.0 low)) few

-- Points.
abbrev pub vertex_of : LoopAt × ℕ → ℕ
vertex_of p = p.1

pub record PointsBefore (d : ShellRows) (i v : ℕ) (m : Points) : Type 0 where
  pub count : m.count + times vertex_of v (drop i d.points) ≡ times vertex_of v d.points
  pub last : 0 < m.count → Contains d.points (m.last, v)

pub points_none : (d : ShellRows) (v : ℕ) → PointsBefore d 0 v no_points
points_none d v = record { count = omega arith; last = λ h. absurd (omega (arith, h)) }

pub points_done : (d : ShellRows) (i v : ℕ) (m : Points) → length d.points ≤ i → PointsBefore d i v m → ArePoints d v m
points_done d i v m past h =
    let k : m.count + 0 ≡ times vertex_of v d.points = subst (λ ps. m.count + times vertex_of v ps ≡ times vertex_of v d.points) (drop_all i d.points past)
    h.count in
    record { count = omega (arith, k, count_by-total (λ (p : LoopAt × ℕ). p.1 == v) d.points); last = h.last }

pub points_step : (d : ShellRows) (i : ℕ) (span : Span) (vertex : ℕ) (at : LoopAt) (old : List Points) (was new : Points)
    → slice_get d.points i ≡ Some (at, vertex) → length old ≡ span.count
    → AllByRecursion (λ (p : LoopAt × ℕ). IsWithin span p.1) d.points → ((v : ℕ) → IsWithin span v → PointsBefore d i v (get_or old (v - span.least) no_points))
    → was ≡ get_or old (vertex - span.least) no_points → new ≡ one_point_more was at → (v : ℕ) → IsWithin span v
    → PointsBefore d (i + 1) v (get_or (slice_set old (vertex - span.least) new) (v - span.least) no_points)
points_step d i span vertex at old was new here long below each is_was is_new v low = by_vertex (eqb_tells vertex v)
  where
    has : Has d.points (at, vertex)
    has = has_get d.points i (at, vertex) here

    in_span : IsWithin span vertex
    in_span = All-at (λ (p : LoopAt × ℕ). IsWithin span p.1) d.points below (at, vertex) has

    k : ℕ
    k = vertex - span.least

    in_old : k < length old
    in_old = omega (arith, long, in_span.0, in_span.1)

    known : was ≡ get_or old k no_points
    known = is_was

    by_vertex : (((vertex == v) ≡ true) × (vertex ≡ v)) ⊎ (((vertex == v) ≡ false) × (vertex ≢ v))
        → PointsBefore d (i + 1) v (get_or (slice_set old (vertex - span.least) new) (v - span.least) no_points)
    by_vertex (inl y) =
        let place : k ≡ v - span.least = ap (λ n. n - span.least) y.1 in
        let before : PointsBefore d i v was = subst (PointsBefore d i v) (sym (known ∙ ap (λ n. get_or old n no_points) place)) (each v low) in
        let there : get_or (slice_set old k new) (v - span.least) no_points ≡ new = subst (λ n. get_or (slice_set old k new) n no_points ≡ new) place
        (set_same old k new no_points in_old) in
        subst (PointsBefore d (i + 1) v) (sym (there ∙ is_new)) (record {
          count = omega (arith, before.count, split_times vertex_of v d.points i (at, vertex) here, ap one_if y.0);
          last = λ p. Contains-from_Has d.points (at, v) (subst (λ n. Has d.points (at, n)) y.1 has);
        })
    by_vertex (inr n) =
        let apart : k ≢ v - span.least = λ e. n.1 (omega (arith, e, in_span.0, low.0)) in
        subst (PointsBefore d (i + 1) v) (sym (set_other old k (v - span.least) new no_points apart)) (record {
          count = omega (arith, (each v low).count, split_times vertex_of v d.points i (at, vertex) here, ap one_if n.0);
          last = (each v low).last;
        })

pub points_room : (d : ShellRows) (i : ℕ) (span : Span) (n vertex : ℕ) (at : LoopAt) (old : List Points) (was : Points)
    → slice_get d.points i ≡ Some (at, vertex) → length old ≡ span.count
    → AllByRecursion (λ (p : LoopAt × ℕ). IsWithin span p.1) d.points
    → ((v : ℕ) → IsWithin span v → PointsBefore d i v (get_or old (v - span.least) no_points)) → was ≡ get_or old (vertex - span.least) no_points
    → length d.points < n → was.count < n
points_room d i span n vertex at old was here long below each is_was few =
    let low : IsWithin span vertex = All-at (λ (p : LoopAt × ℕ). IsWithin span p.1) d.points below (at, vertex) (has_get d.points i (at, vertex) here) in
    let known : was ≡ get_or old (vertex - span.least) no_points = is_was in
    let before : PointsBefore d i vertex was = subst (PointsBefore d i vertex) (sym known) (each vertex low) in
    omega (arith, before.count, few, times_few vertex_of vertex d.points)

pub vertex_low : (d : ShellRows) (i : ℕ) (span : Span) (vertex : ℕ) (at : LoopAt) → slice_get d.points i ≡ Some (at, vertex)
    → AllByRecursion (λ (p : LoopAt × ℕ). IsWithin span p.1) d.points → IsWithin span vertex
vertex_low d i span vertex at here below = All-at (λ (p : LoopAt × ℕ). IsWithin span p.1) d.points below (at, vertex) (has_get d.points i (at, vertex) here)

pub from_low : (d : ShellRows) (i : ℕ) (span : Span) (row : Row) → slice_get d.rows i ≡ Some row → AllByRecursion (λ (r : Row). IsWithin span r.from.0) d.rows
    → IsWithin span row.from.0
from_low d i span row at below = All-at (λ (r : Row). IsWithin span r.from.0) d.rows below row (has_get d.rows i row at)
