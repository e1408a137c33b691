-- Counting up by vertex, item by item.
use Rattle.std.specs.Prelude.{◌≡◌, ◌≢◌, ℕ, ◌+◌, ◌-◌, ◌<◌, ◌≤◌, ◌==◌, ◌⊎◌, true, false, List, [], ◌∷◌, ◌++◌, length, map, Contains, Some, slice_get, slice_set}
use Rattle.std.specs.Prelude.{replicate, count_by, if◌then◌else◌}
use Rattle.std.proofs.Common.{sym, ◌∙◌, ap, subst, arith, inl, inr, get_or, drop, append_assoc}
use Rattle.std.proofs.lemmas.Bool.Decides.{eqb_tells}
use Rattle.std.proofs.lemmas.List.{get_or-replicate, length-replicate, append-nil, drop_all, length-set}
use Rattle.solid_data.specs.declared.solid.LoopAt.{LoopAt}
use Rattle.solid_data.proofs.Members.{count_by-total, All-at, split_at, has_get}
use Rattle.solid_data.specs.declared.spanning.Span.{Span}
use Rattle.solid_data.specs.Cells.{Celled, cell_of, with_cell}
use Rattle.solid_data.specs.Ranges.{IsWithin, IsSpanOf}
use Rattle.edge_uses.specs.declared.row.Row.{Row}
use Rattle.edge_uses.specs.ShellRows.{ShellRows, AreRows}
use Rattle.edge_uses.proofs.Tallies.{one_if, set_same, set_other}
use Rattle.edge_uses.proofs.Counting.{times, times_few}
use Rattle.cert_state.specs.Progress.{start_count}
use Rattle.cert_state.specs.CheckState.{corner_size}
use Rattle.cert_state.specs.Tallied.{AreStarts, ArePoints}

-- counts that are 0 but for vertices of the shell
pub record AreOnVertices (d : ShellRows) (c : Celled ℕ) : Type 0 where
  pub rows : AreRows d
  pub numbers : c.numbers ≡ d.vertices
  pub span : IsSpanOf c.span d.vertices
  pub blank : c.blank ≡ 0
  pub long : length c.cells ≡ c.span.count

pub on_vertices : (d : ShellRows) (c : Celled ℕ) (ns : List ℕ) → AreRows d → ns ≡ d.vertices → c.numbers ≡ ns → IsSpanOf c.span ns → c.blank ≡ 0
    → c.cells ≡ replicate c.span.count 0 → AreOnVertices d c
on_vertices d c ns rows same numbers span blank cells = record {
  rows = rows;
  numbers = numbers ∙ same;
  span = subst (IsSpanOf c.span) same span;
  blank = blank;
  long = ap (λ xs. length xs) cells ∙ length-replicate c.span.count 0;
}

-- the counts of the items before the i-th
pub record CountsBefore (A : Type 0) (f : A → ℕ) (xs : List A) (i : ℕ) (d : ShellRows) (c : Celled ℕ) : Type 0 where
  pub on : AreOnVertices d c
  pub each : (v : ℕ) → IsWithin c.span v → cell_of c v + times f v (drop i xs) ≡ times f v xs

pub counts_none : (A : Type 0) (f : A → ℕ) (xs : List A) (d : ShellRows) (c : Celled ℕ) → AreOnVertices d c → c.cells ≡ replicate c.span.count 0
    → CountsBefore A f xs 0 d c
counts_none A f xs d c on e = record {
  on = on;
  each = λ v within.
      let zero_there : cell_of c v ≡ 0 = ap (λ t. get_or t (v - c.span.least) c.blank) e ∙ get_or-replicate c.span.count (v - c.span.least) 0 c.blank
      (omega (arith, within.0, within.1)) in
      omega (arith, zero_there);
}

pub counts_step : (A : Type 0) (f : A → ℕ) (xs : List A) (i : ℕ) (x : A) (d : ShellRows) (c new : Celled ℕ) → slice_get xs i ≡ Some x → IsWithin c.span (f x)
    → new ≡ with_cell c (f x) (cell_of c (f x) + 1)
    → CountsBefore A f xs i d c → CountsBefore A f xs (i + 1) d new
counts_step A f xs i x d c new at within is h = subst (CountsBefore A f xs (i + 1) d) (sym is) (record {
  on = record { rows = h.on.rows; numbers = h.on.numbers; span = h.on.span; blank = h.on.blank; long = length-set c.cells k (seen + 1) ∙ h.on.long };
  each = λ v w. by_vertex v w (eqb_tells (f x) v);
})
  where
    k : ℕ
    k = f x - c.span.least

    seen : ℕ
    seen = cell_of c (f x)

    in_cells : k < length c.cells
    in_cells = omega (arith, h.on.long, within.0, within.1)

    split : (v : ℕ) → times f v (drop i xs) ≡ one_if (f x == v) + times f v (drop (i + 1) xs)
    split v = ap (times f v) (split_at xs i x at)

    by_vertex : (v : ℕ) → IsWithin c.span v → (((f x == v) ≡ true) × (f x ≡ v)) ⊎ (((f x == v) ≡ false) × (f x ≢ v))
        → get_or (slice_set c.cells k (seen + 1)) (v - c.span.least) c.blank + times f v (drop (i + 1) xs) ≡ times f v xs
    by_vertex v w (inl y) =
        let place : v - c.span.least ≡ k = omega (arith, y.1) in
        let there : get_or (slice_set c.cells k (seen + 1)) (v - c.span.least) c.blank ≡ seen + 1 = ap (λ n. get_or (slice_set c.cells k (seen + 1)) n c.blank)
        place ∙ set_same c.cells k (seen + 1) c.blank in_cells in
        let was : seen ≡ cell_of c v = ap (λ n. cell_of c n) y.1 in
        let one : one_if (f x == v) ≡ 1 = ap one_if y.0 in
        omega (arith, there, was, one, split v, h.each v w)
    by_vertex v w (inr n) =
        let apart : k ≢ v - c.span.least = λ e. n.1 (omega (arith, e, within.0, w.0)) in
        let there : get_or (slice_set c.cells k (seen + 1)) (v - c.span.least) c.blank ≡ cell_of c v =
        set_other c.cells k (v - c.span.least) (seen + 1) c.blank apart in
        let none : one_if (f x == v) ≡ 0 = ap one_if n.0 in
        omega (arith, there, none, split v, h.each v w)

pub counts_few : (A : Type 0) (f : A → ℕ) (xs : List A) (i : ℕ) (x : A) (d : ShellRows) (c : Celled ℕ) (n : ℕ) → IsWithin c.span (f x)
    → CountsBefore A f xs i d c → length xs < n → cell_of c (f x) < n
counts_few A f xs i x d c n within h few = omega (arith, h.each (f x) within, few, times_few f (f x) xs)

counts_done : (A : Type 0) (f : A → ℕ) (xs : List A) (i : ℕ) (d : ShellRows) (c : Celled ℕ) (v : ℕ) → length xs ≤ i → CountsBefore A f xs i d c
    → IsWithin c.span v → cell_of c v ≡ times f v xs
counts_done A f xs i d c v past h within =
    let none : times f v (drop i xs) ≡ 0 = ap (times f v) (drop_all i xs past) in
    omega (arith, none, h.each v within)

abbrev pub from_of : Row → ℕ
from_of r = r.from.0

abbrev pub lies_of : LoopAt × ℕ → ℕ
lies_of p = p.1

pub starts_counted : (d : ShellRows) (i : ℕ) (c : Celled ℕ) → length d.rows ≤ i → CountsBefore Row from_of d.rows i d c → AreStarts d c
starts_counted d i c past h =
    record {
      rows = h.on.rows;
      span = h.on.span;
      each = λ v w. counts_done Row from_of d.rows i d c v past h w
          ∙ sym (count_by-total (λ (r : Row). r.from.0 == v) d.rows);
    }

pub points_counted : (d : ShellRows) (i : ℕ) (c : Celled ℕ) → length d.points ≤ i → CountsBefore (LoopAt × ℕ) lies_of d.points i d c → ArePoints d c
points_counted d i c past h =
    record {
      rows = h.on.rows;
      span = h.on.span;
      each = λ v w. counts_done (LoopAt × ℕ) lies_of d.points i d c v past h w
          ∙ sym (count_by-total (λ (p : LoopAt × ℕ). p.1 == v) d.points);
    }

-- where each loop has an edge
pub starts_alone : (d : ShellRows) (v : ℕ) → d.points ≡ [] → start_count d v ≡ corner_size d v
starts_alone d v e = sym (ap (λ (n : ℕ). if n == 0 then start_count d v else 0) (ap (count_by (λ (p : LoopAt × ℕ). p.1 == v)) e))

row_occurs : (d : ShellRows) (i : ℕ) (r : Row) → AreRows d → slice_get d.rows i ≡ Some r → Contains d.vertices r.from.0
row_occurs d i r rows at =
    (All-at (λ (r : Row). Contains d.vertices r.from.0 × Contains d.vertices r.to.0) d.rows rows.vertices_hold r (has_get d.rows i r at)).0

point_occurs : (d : ShellRows) (i : ℕ) (p : LoopAt × ℕ) → AreRows d → slice_get d.points i ≡ Some p → Contains d.vertices p.1
point_occurs d i p rows at = All-at (λ (p : LoopAt × ℕ). Contains d.vertices p.1) d.points rows.points_hold p (has_get d.points i p at)

within_of : (d : ShellRows) (span : Span) (v : ℕ) → IsSpanOf span d.vertices → Contains d.vertices v → IsWithin span v
within_of d span v is c = subst (IsWithin span) c.2 (is.holds c.0 v c.1)

pub row_known : (d : ShellRows) (i : ℕ) (r : Row) (c : Celled ℕ) → AreOnVertices d c → slice_get d.rows i ≡ Some r → Contains c.numbers r.from.0
row_known d i r c on at = subst (λ ns. Contains ns r.from.0) (sym on.numbers) (row_occurs d i r on.rows at)

pub point_known : (d : ShellRows) (i : ℕ) (p : LoopAt × ℕ) (c : Celled ℕ) → AreOnVertices d c → slice_get d.points i ≡ Some p → Contains c.numbers p.1
point_known d i p c on at = subst (λ ns. Contains ns p.1) (sym on.numbers) (point_occurs d i p on.rows at)

pub row_within : (d : ShellRows) (span : Span) (i : ℕ) (r : Row) → AreRows d → IsSpanOf span d.vertices → slice_get d.rows i ≡ Some r → IsWithin span r.from.0
row_within d span i r rows is at = within_of d span r.from.0 is (row_occurs d i r rows at)

pub point_within : (d : ShellRows) (span : Span) (i : ℕ) (p : LoopAt × ℕ) → AreRows d → IsSpanOf span d.vertices → slice_get d.points i ≡ Some p
    → IsWithin span p.1
point_within d span i p rows is at = within_of d span p.1 is (point_occurs d i p rows at)

-- what is pushed for the items so far, and what is left
pub mapped_more : {A B : Type 0} (g : A → B) (xs : List A) (i : ℕ) (x : A) (out new all : List B) → slice_get xs i ≡ Some x → out ++ map g (drop i xs) ≡ all
    → new ≡ out ++ g x ∷ [] → new ++ map g (drop (i + 1) xs) ≡ all
mapped_more g xs i x out new all at h e =
    ap (λ ys. ys ++ map g (drop (i + 1) xs)) e
    ∙ (append_assoc out (g x ∷ []) (map g (drop (i + 1) xs)) ∙ (ap (λ ys. out ++ map g ys) (sym (split_at xs i x at)) ∙ h))

pub mapped_done : {A B : Type 0} (g : A → B) (xs : List A) (i : ℕ) (out all : List B) → length xs ≤ i → out ++ map g (drop i xs) ≡ all → out ≡ all
mapped_done g xs i out all past h = sym (append-nil out) ∙ (ap (λ ys. out ++ map g ys) (sym (drop_all i xs past)) ∙ h)
