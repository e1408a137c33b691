-- What is noted of each vertex, also where the vertices lie far apart.
use Rattle.std.specs.Prelude.{◌≡◌, ◌<◌, ◌≤◌, ◌+◌, ◌-◌, ◌^◌, ℕ, Contains, List, Some, All, length, replicate, slice_get, get_or}
use Rattle.std.specs.List.{AllByRecursion}
use Rattle.std.proofs.Common.{refl, sym, ◌∙◌, ap, subst, arith}
use Rattle.std.proofs.lemmas.List.{get_or-replicate, length-replicate, length-set}
use Rattle.std.proofs.lemmas.Option.{slice_get_within, get_or_from_slice_get}
use Rattle.solid_data.proofs.Members.{All-at, has_get}
use Rattle.solid_data.proofs.ObligationLemmas.{AllByRecursion-weaker}
use Rattle.solid_data.specs.declared.solid.LoopAt.{LoopAt}
use Rattle.solid_data.specs.Cells.{Celled, cell_of, with_cell}
use Rattle.solid_data.specs.Ranges.{IsWithin, IsSpanOf}
use Rattle.solid_data.specs.declared.spanning.Span.{Span}
use Rattle.edge_uses.specs.ShellRows.{ShellRows, AreRows}
use Rattle.edge_uses.specs.declared.row.Row.{Row}
use Rattle.shell_tables.specs.Starting.{no_starts, one_start_more, AreStarts, no_points, one_point_more, ArePoints, AreStartCells, ArePointCells}
use Rattle.shell_tables.specs.declared.starting.Starts.{Starts}
use Rattle.shell_tables.specs.declared.starting.Points.{Points}
use Rattle.shell_tables.proofs.StartCounts.{StartsBefore, PointsBefore, starts_none, starts_room, starts_step, starts_done, points_none, points_room}
use Rattle.shell_tables.proofs.StartCounts.{points_step, points_done}

-- cells that are blank but for vertices of the shell
pub record IsOnVertices {T : Type 0} (d : ShellRows) (blank : T) (c : Celled T) : Type 0 where
  pub rows : AreRows d
  pub numbers : c.numbers ≡ d.vertices
  pub span : IsSpanOf c.span d.vertices
  pub blank_is : c.blank ≡ blank
  pub long : length c.cells ≡ c.span.count

pub on_vertices : {T : Type 0} (d : ShellRows) (blank : T) (c : Celled T) (ns : List ℕ) → AreRows d → ns ≡ d.vertices → c.numbers ≡ ns → IsSpanOf c.span ns
    → c.blank ≡ blank → c.cells ≡ replicate c.span.count blank → IsOnVertices d blank c
on_vertices d blank c ns rows same numbers span blank_is cells = record {
  rows = rows;
  numbers = numbers ∙ same;
  span = subst (IsSpanOf c.span) same span;
  blank_is = blank_is;
  long = ap (λ xs. length xs) cells ∙ length-replicate c.span.count blank;
}

pub blank_there : {T : Type 0} (blank : T) (c : Celled T) (v : ℕ) → c.cells ≡ replicate c.span.count blank → IsWithin c.span v
    → get_or c.cells (v - c.span.least) blank ≡ blank
blank_there blank c v cells within = ap (λ xs. get_or xs (v - c.span.least) blank) cells ∙ get_or-replicate c.span.count (v - c.span.least) blank blank
    (omega (arith, within))

pub with_kept : {T : Type 0} (d : ShellRows) (blank value : T) (c : Celled T) (v : ℕ) → IsOnVertices d blank c → IsOnVertices d blank (with_cell c v value)
with_kept d blank value c v on =
    record { rows = on.rows; numbers = on.numbers; span = on.span; blank_is = on.blank_is; long = length-set c.cells (v - c.span.least) value ∙ on.long }

-- a vertex that occurs lies in the range
pub vertex_within : (d : ShellRows) (span : Span) (i v : ℕ) → IsSpanOf span d.vertices → slice_get d.vertices i ≡ Some v → IsWithin span v
vertex_within d span i v is at = subst (IsWithin span) (get_or_from_slice_get d.vertices i v v at) (is.holds i v (slice_get_within d.vertices i v at))

pub member_within : (ns : List ℕ) (span : Span) (v : ℕ) → All (IsWithin span) ns → Contains ns v → IsWithin span v
member_within ns span v all h = subst (IsWithin span) h.2 (all h.0 v h.1)

rows_in : (d : ShellRows) (span : Span) → AreRows d → IsSpanOf span d.vertices → AllByRecursion (λ (r : Row). IsWithin span r.from.0) d.rows
rows_in d span rows is =
    AllByRecursion-weaker (λ (r : Row). Contains d.vertices r.from.0 × Contains d.vertices r.to.0) (λ (r : Row). IsWithin span r.from.0) d.rows
    (λ r h. member_within d.vertices span r.from.0 is.holds h.0) rows.vertices_hold

points_in : (d : ShellRows) (span : Span) → AreRows d → IsSpanOf span d.vertices → AllByRecursion (λ (p : LoopAt × ℕ). IsWithin span p.1) d.points
points_in d span rows is = AllByRecursion-weaker (λ (p : LoopAt × ℕ). Contains d.vertices p.1) (λ (p : LoopAt × ℕ). IsWithin span p.1) d.points
    (λ p h. member_within d.vertices span p.1 is.holds h) rows.points_hold

-- the starts of the first i rows
pub record RowsNoted (d : ShellRows) (i : ℕ) (c : Celled Starts) : Type 0 where
  pub on : IsOnVertices d no_starts c
  pub each : (v : ℕ) → IsWithin c.span v → StartsBefore d i v (get_or c.cells (v - c.span.least) no_starts)

pub rows_first : (d : ShellRows) (c : Celled Starts) → IsOnVertices d no_starts c → c.cells ≡ replicate c.span.count no_starts → RowsNoted d 0 c
rows_first d c on cells = record { on = on; each = λ v within. subst (StartsBefore d 0 v) (sym (blank_there no_starts c v cells within)) (starts_none d v) }

module _ (d : ShellRows) (i : ℕ) (c : Celled Starts) (row : Row) (t : RowsNoted d i c) (at : slice_get d.rows i ≡ Some row) where
  ends : Contains d.vertices row.from.0 × Contains d.vertices row.to.0
  ends = All-at (λ (r : Row). Contains d.vertices r.from.0 × Contains d.vertices r.to.0) d.rows t.on.rows.vertices_hold row (has_get d.rows i row at)

  pub start_known : Contains c.numbers row.from.0
  start_known = subst (λ ns. Contains ns row.from.0) (sym t.on.numbers) ends.0

  pub start_within : IsWithin c.span row.from.0
  start_within = member_within d.vertices c.span row.from.0 t.on.span.holds ends.0

  was_start : cell_of c row.from.0 ≡ get_or c.cells (row.from.0 - c.span.least) no_starts
  was_start = ap (λ b. get_or c.cells (row.from.0 - c.span.least) b) t.on.blank_is

  pub start_few : (cell_of c row.from.0).count < 2 ^ 29
  start_few = starts_room d i c.span (2 ^ 29) row c.cells (cell_of c row.from.0) at t.on.long (rows_in d c.span t.on.rows t.on.span) t.each was_start
      t.on.rows.few

  pub start_noted : (new : Celled Starts) → new ≡ with_cell c row.from.0 (one_start_more (cell_of c row.from.0) i) → RowsNoted d (i + 1) new
  start_noted new is = subst (RowsNoted d (i + 1)) (sym is) (record {
    on = with_kept d no_starts (one_start_more (cell_of c row.from.0) i) c row.from.0 t.on;
    each = starts_step d i c.span row c.cells (cell_of c row.from.0) (one_start_more (cell_of c row.from.0) i) at t.on.long
        (rows_in d c.span t.on.rows t.on.span) t.each was_start refl;
  })

pub rows_noted : (d : ShellRows) (i : ℕ) (c : Celled Starts) → length d.rows ≤ i → RowsNoted d i c → AreStartCells d c
rows_noted d i c past t =
    record { span = t.on.span; blank = t.on.blank_is; all = λ v within. starts_done d i v (get_or c.cells (v - c.span.least) no_starts) past (t.each v within) }

-- the first i loops without an edge
pub record PointsNoted (d : ShellRows) (i : ℕ) (c : Celled Points) : Type 0 where
  pub on : IsOnVertices d no_points c
  pub each : (v : ℕ) → IsWithin c.span v → PointsBefore d i v (get_or c.cells (v - c.span.least) no_points)

pub points_first : (d : ShellRows) (c : Celled Points) → IsOnVertices d no_points c → c.cells ≡ replicate c.span.count no_points → PointsNoted d 0 c
points_first d c on cells = record { on = on; each = λ v within. subst (PointsBefore d 0 v) (sym (blank_there no_points c v cells within)) (points_none d v) }

module _ (d : ShellRows) (i : ℕ) (c : Celled Points) (place : LoopAt) (v : ℕ) (t : PointsNoted d i c) (at : slice_get d.points i ≡ Some (place, v)) where
  lies : Contains d.vertices v
  lies = All-at (λ (p : LoopAt × ℕ). Contains d.vertices p.1) d.points t.on.rows.points_hold (place, v) (has_get d.points i (place, v) at)

  pub point_known : Contains c.numbers v
  point_known = subst (λ ns. Contains ns v) (sym t.on.numbers) lies

  pub point_within : IsWithin c.span v
  point_within = member_within d.vertices c.span v t.on.span.holds lies

  was_point : cell_of c v ≡ get_or c.cells (v - c.span.least) no_points
  was_point = ap (λ b. get_or c.cells (v - c.span.least) b) t.on.blank_is

  pub point_few : (cell_of c v).count < 2 ^ 29
  point_few = points_room d i c.span (2 ^ 29) v place c.cells (cell_of c v) at t.on.long (points_in d c.span t.on.rows t.on.span) t.each was_point
      t.on.rows.few_points

  pub point_noted : (new : Celled Points) → new ≡ with_cell c v (one_point_more (cell_of c v) place) → PointsNoted d (i + 1) new
  point_noted new is = subst (PointsNoted d (i + 1)) (sym is) (record {
    on = with_kept d no_points (one_point_more (cell_of c v) place) c v t.on;
    each = points_step d i c.span v place c.cells (cell_of c v) (one_point_more (cell_of c v) place) at t.on.long (points_in d c.span t.on.rows t.on.span)
        t.each was_point refl;
  })

pub points_noted : (d : ShellRows) (i : ℕ) (c : Celled Points) → length d.points ≤ i → PointsNoted d i c → ArePointCells d c
points_noted d i c past t =
    record { span = t.on.span; blank = t.on.blank_is; all = λ v within. points_done d i v (get_or c.cells (v - c.span.least) no_points) past (t.each v within) }

-- what stands at a vertex
pub start_there : (d : ShellRows) (c : Celled Starts) (v : ℕ) (m : Starts) → AreStartCells d c → IsWithin c.span v → m ≡ cell_of c v → AreStarts d v m
start_there d c v m h within e = subst (AreStarts d v) (sym (e ∙ ap (λ b. get_or c.cells (v - c.span.least) b) h.blank)) (h.all v within)

pub point_there : (d : ShellRows) (c : Celled Points) (v : ℕ) (m : Points) → ArePointCells d c → IsWithin c.span v → m ≡ cell_of c v → ArePoints d v m
point_there d c v m h within e = subst (ArePoints d v) (sym (e ∙ ap (λ b. get_or c.cells (v - c.span.least) b) h.blank)) (h.all v within)
