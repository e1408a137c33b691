-- What is kept of an open shell, behind one more of its lines.
use Rattle.std.specs.Prelude.{◌≡◌, ℕ, ◌+◌, ◌-◌, ◌<◌, ◌≤◌, ◌^◌, ◌⊎◌, min, true, false, List, [], ◌∷◌, length, filter_map, flat_map, Option, Some, None}
use Rattle.std.specs.Prelude.{slice_set}
use Rattle.std.specs.List.{cons_option}
use Rattle.std.proofs.Common.{refl, sym, ◌∙◌, ap, subst, arith, inl, inr, ⊎_elim, length-append}
use Rattle.std.proofs.Math.Nat.{min-eq_left, min-eq_right}
use Rattle.std.proofs.lemmas.Bool.{cases_lt}
use Rattle.std.proofs.lemmas.List.{length-set}
use Rattle.std.proofs.lemmas.Option.{same_Some}
use Rattle.solid_data.specs.SolidData.{SolidData}
use Rattle.edge_uses.specs.declared.row.Row.{Row}
use Rattle.edge_uses.specs.ShellRows.{ShellRows}
use Rattle.cert_lines.specs.Line.{edge as pair_edge, corner as pair_corner, point as pair_point, reach as pair_reach}
use Rattle.cert_state.specs.Progress.{Progress, row_named, first_of, IsAbove, FitsEdge, FitsPoint, FitsReach}
use Rattle.cert_state.specs.Progress.{edge_of, vertex_of, face_of}
use Rattle.cert_state.specs.CheckState.{HoldsMates, HoldsFaces}
use Rattle.cert_state.specs.Ring.{FitsCornerLine}
use Rattle.cert_state.proofs.Arrays.{CanMate, MateCases, with_mates, mate_cases, mates_more, faces_more}
use Rattle.cert_state.proofs.CornerFits.{named_below}
use Rattle.cert_state.proofs.Progressing.{due_of, progress_of}
use Rattle.cert_state.proofs.Telling.{not_passed, progress_at, progress_at_last}
use Rattle.open_certificate.specs.Line.{OpenLine, shell, edge, lone, cycle, path, point, reach, border}
use Rattle.open_certificate.specs.Progress.{OpenProgress, progress_from_latest, shell_of, shared, edge_in, vertex_in, face_in, border_in, border_rows}
use Rattle.open_certificate.specs.Progress.{FitsShell}
use Rattle.open_certificate.specs.Progress.{FitsLone}
use Rattle.open_certificate.specs.Progress.{FitsOpen, CornerDue, BorderDue}
use Rattle.open_certificate.specs.CheckState.{OpenCheckState, IsCheckState, AreCounts, MatchesLines, Takes, HoldsRows, dues, count_limit}
use Rattle.open_certificate.specs.Walks.{FitsPathLine, FitsBorderLine}
use Rattle.open_certificate.proofs.Marks.{rows_more}

true_false : true ≡ false → ⊥
true_false h = cc

-- behind a line something was begun
due_begun : (k : OpenCheckState) → IsCheckState k → 0 < dues k → k.begun ≡ false → ⊥
due_begun k kept due e = omega (arith, due, (kept.unbegun e).0)

-- Edge lines of two rows.

abbrev pub with_edge : OpenCheckState → ℕ → ℕ → ℕ → ℕ → ℕ → OpenCheckState
with_edge k a b e n l = record k { edges_due = n; listed = l; mates = with_mates k.mates a b; last_edge = Some e }

-- where an edge line fits behind the last edge
pub record EdgeFits (k : OpenCheckState) (a b e : ℕ) : Type 0 where
  pub fits : (at : Progress) → at.last_edge ≡ k.last_edge → FitsEdge k.rows at a b × (edge_of k.rows (pair_edge a b) ≡ Some e)

pub can_mate : (k : OpenCheckState) (a b e : ℕ) → IsCheckState k → EdgeFits k a b e → CanMate k.mates a b
can_mate k a b e kept h = by_fit (h.fits (progress_at k.last_edge) (progress_at_last k.last_edge)).0
  where
    by_fit : FitsEdge k.rows (progress_at k.last_edge) a b → CanMate k.mates a b
    by_fit f =
        let pa = named_below k.rows a f.along_row f.at_a in
        let pb = named_below k.rows b f.against_row f.at_b in
        let above : IsAbove k.last_edge f.along_row.edge.0 = subst (λ o. IsAbove o f.along_row.edge.0) (progress_at_last k.last_edge) f.rises in
        let one : f.along_row.edge.0 ≡ f.against_row.edge.0 = ap (λ x. x.0) f.one_edge in
        record {
          pos_a = pa.0;
          pos_b = pb.0;
          within_a = omega (arith, pa.1, kept.each_row);
          within_b = omega (arith, pb.1, kept.each_row);
          differ = λ same. (let r : f.along_row ≡ f.against_row = same_Some f.along_row f.against_row (sym f.at_a ∙ (ap (row_named k.rows) same ∙ f.at_b)) in
              let t : true ≡ false = sym f.along ∙ (ap (λ (x : Row). x.along) r ∙ f.against) in
              cc);
          free_a = λ m is. (let p = kept.passed a m is in
              let r : p.0 ≡ f.along_row = same_Some p.0 f.along_row (sym p.1 ∙ f.at_a) in
              let q : p.0.edge.0 ≡ f.along_row.edge.0 = ap (λ (x : Row). x.edge.0) r in
              omega (arith, q, not_passed k.last_edge f.along_row.edge.0 p.0.edge.0 above p.2));
          free_b = λ m is. (let p = kept.passed b m is in
              let r : p.0 ≡ f.against_row = same_Some p.0 f.against_row (sym p.1 ∙ f.at_b) in
              let q : p.0.edge.0 ≡ f.against_row.edge.0 = ap (λ (x : Row). x.edge.0) r in
              omega (arith, q, one, not_passed k.last_edge f.along_row.edge.0 p.0.edge.0 above p.2));
        }

pub edge_kept : (k : OpenCheckState) (a b e n l : ℕ) → IsCheckState k → EdgeFits k a b e → 0 < k.edges_due → n ≡ k.edges_due - 1 → l ≡ k.listed + 2
    → IsCheckState (with_edge k a b e n l)
edge_kept k a b e n l kept h due less more = record {
  sizes = kept.sizes;
  alone = kept.alone;
  in_order = kept.in_order;
  some_face = kept.some_face;
  each_row = length-set (slice_set k.mates (a - 1) b) (b - 1) a ∙ (length-set k.mates (a - 1) b ∙ kept.each_row);
  each_lone = kept.each_lone;
  each_face = kept.each_face;
  few_dues = omega (arith, kept.few_dues, less);
  few_listed = omega (arith, kept.few_listed, less, more, due);
  few_lone = omega (arith, kept.few_lone, less);
  unbegun = λ e. absurd (due_begun k kept (omega (arith, due)) e);
  passed = λ r m is. by_case r m (h.fits (progress_at k.last_edge) (progress_at_last k.last_edge)) (mate_cases k.mates a b r m (can_mate k a b e kept h) is);
}
  where
    by_case : (r m : ℕ) → FitsEdge k.rows (progress_at k.last_edge) a b × (edge_of k.rows (pair_edge a b) ≡ Some e) → MateCases k.mates a b r m
        → (row : Row) × (row_named k.rows r ≡ Some row) × (row.edge.0 ≤ e)
    by_case r m (f, is_e) cases =
        let edge_is : f.along_row.edge.0 ≡ e = same_Some f.along_row.edge.0 e (sym (ap (λ o. edge_at o) f.at_a) ∙ is_e) in
        let one : f.along_row.edge.0 ≡ f.against_row.edge.0 = ap (λ x. x.0) f.one_edge in
        let above : IsAbove k.last_edge f.along_row.edge.0 = subst (λ o. IsAbove o f.along_row.edge.0) (progress_at_last k.last_edge) f.rises in
        ⊎_elim (λ p. (f.along_row, ap (row_named k.rows) p.0 ∙ f.at_a, omega (arith, edge_is)))
        (λ q. ⊎_elim (λ p. (f.against_row, ap (row_named k.rows) p.0 ∙ f.at_b, omega (arith, edge_is, one)))
        (λ old. let p = kept.passed r m old in (p.0, p.1, omega (arith, edge_is, not_passed k.last_edge f.along_row.edge.0 p.0.edge.0 above p.2))) q) cases
      where
        edge_at : Option Row → Option ℕ
        edge_at None = None
        edge_at (Some x) = Some x.edge.0

pub edge_takes : (k : OpenCheckState) (a b e n l : ℕ) → IsCheckState k → 0 < k.edges_due → n ≡ k.edges_due - 1 → l ≡ k.listed + 2
    → (k.edges_due ≡ 1 → k.listed + 2 ≡ length k.rows.rows) → EdgeFits k a b e
    → Takes k (with_edge k a b e n l) (edge a b) true
unfolding progress_from_latest
edge_takes k a b e n l kept due less more all h s lines t =
    let at : OpenProgress = progress_from_latest s lines in
    let f = h.fits (shared at) (sym t.last_edge) in
    let held = mates_more k.mates at.mates a b (can_mate k a b e kept h) t.mates in
    let is_e : edge_in (shell_of s) (edge a b) ≡ Some e = subst (λ d. edge_of d (pair_edge a b) ≡ Some e) t.rows f.1 in
    let rows : length k.rows.rows ≡ length (shell_of s).rows = ap (λ (d : ShellRows). length d.rows) t.rows in (
      (
        omega (arith, due, t.edges_due),
        subst (λ d. FitsEdge d (shared at) a b) t.rows f.0,
        λ one. omega
            (arith, all (omega (arith, one, t.edges_due)), t.listed, rows),
      ),
      record {
        entity = t.entity;
        rows = t.rows;
        first = λ e. absurd (due_begun k kept (omega (arith, due)) e);
        begun = t.begun;
        mates = held;
        lone = t.lone;
        lone_count = t.lone_count;
        reached = t.reached;
        edges_due = omega (arith, less, t.edges_due);
        corners_due = t.corners_due;
        reach_due = t.reach_due;
        borders_due = t.borders_due;
        listed = omega (arith, more, t.listed);
        bordered = t.bordered;
        last_edge = ap (λ o. first_of (cons_option o (filter_map (edge_in (shell_of s)) lines))) (sym is_e);
        last_vertex = t.last_vertex;
        last_border = t.last_border;
      },
    )

pub edge_unfit : (k new : OpenCheckState) (a b : ℕ) → ((at : Progress) → at.last_edge ≡ k.last_edge → FitsEdge k.rows at a b → ⊥) → Takes k new (edge a b) false
edge_unfit k new a b never s lines t f = never (shared (progress_from_latest s lines)) (sym t.last_edge)
    (subst (λ d. FitsEdge d (shared (progress_from_latest s lines)) a b) (sym t.rows) f.1)

pub edge_short : (k new : OpenCheckState) (a b : ℕ) → ((k.edges_due ≡ 1 → k.listed + 2 ≡ length k.rows.rows) → ⊥) → Takes k new (edge a b) false
edge_short k new a b never s lines t f =
    let rows : length k.rows.rows ≡ length (shell_of s).rows = ap (λ (d : ShellRows). length d.rows) t.rows in
    never (λ one. omega (arith, f.2 (omega (arith, one, t.edges_due)), t.listed, rows))

-- Edge lines of one row.

abbrev pub with_lone : OpenCheckState → ℕ → ℕ → ℕ → ℕ → ℕ → OpenCheckState
with_lone k a e n l c = record k { edges_due = n; listed = l; lone_count = c; lone = slice_set k.lone (a - 1) true; last_edge = Some e }

pub record LoneFits (k : OpenCheckState) (a e : ℕ) : Type 0 where
  pub fits : (at : OpenProgress) → at.last_edge ≡ k.last_edge → FitsLone k.rows at a × (edge_in k.rows (lone a) ≡ Some e)

-- an open shell's progress with this last edge
open_at : Option ℕ → OpenProgress
open_at last = record {
  number = 0;
  ended = false;
  begun = false;
  edges_due = 0;
  corners_due = 0;
  reach_due = 0;
  borders_due = 0;
  mates = [];
  lone =
      [];
  listed = 0;
  last_edge = last;
  last_vertex = None;
  reached = [];
  last_border = None;
  bordered = [];
}

open_at_last : (last : Option ℕ) → (open_at last).last_edge ≡ last
unfolding open_at
open_at_last last = refl

pub lone_within : (k : OpenCheckState) (a e : ℕ) → LoneFits k a e → (0 < a) × (a ≤ length k.rows.rows)
lone_within k a e h = let f = (h.fits (open_at k.last_edge) (open_at_last k.last_edge)).0 in named_below k.rows a f.row f.at_a

lone_above : (k : OpenCheckState) (a e : ℕ) → LoneFits k a e → IsAbove k.last_edge e
lone_above k a e h =
    let f = h.fits (open_at k.last_edge) (open_at_last k.last_edge) in
    let edge_is : f.0.row.edge.0 ≡ e = same_Some f.0.row.edge.0 e (sym (ap (λ o. edge_at o) f.0.at_a) ∙ f.1) in
    subst (IsAbove k.last_edge) edge_is (subst (λ o. IsAbove o f.0.row.edge.0) (open_at_last k.last_edge) f.0.rises)
  where
    edge_at : Option Row → Option ℕ
    edge_at None = None
    edge_at (Some x) = Some x.edge.0

pub lone_kept : (k : OpenCheckState) (a e n l c : ℕ) → IsCheckState k → LoneFits k a e → 0 < k.edges_due → n ≡ k.edges_due - 1 → l ≡ k.listed + 1
    → c ≡ k.lone_count + 1
    → IsCheckState (with_lone k a e n l c)
lone_kept k a e n l c kept h due less more count = record {
  sizes = kept.sizes;
  alone = kept.alone;
  in_order = kept.in_order;
  some_face = kept.some_face;
  each_row = kept.each_row;
  each_lone = length-set k.lone (a - 1) true ∙ kept.each_lone;
  each_face = kept.each_face;
  few_dues = omega (arith, kept.few_dues, less);
  few_listed = omega (arith, kept.few_listed, less, more, due);
  few_lone = omega (arith, kept.few_lone, less, count, due);
  unbegun = λ e. absurd (due_begun k kept (omega (arith, due)) e);
  passed = λ r m is. let p = kept.passed r m is in (p.0, p.1, omega (arith, not_passed k.last_edge e p.0.edge.0 (lone_above k a e h) p.2));
}

pub lone_takes : (k : OpenCheckState) (a e n l c : ℕ) → IsCheckState k → 0 < k.edges_due → n ≡ k.edges_due - 1 → l ≡ k.listed + 1 → c ≡ k.lone_count + 1
    → (k.edges_due ≡ 1 → k.listed + 1 ≡ length k.rows.rows) → LoneFits k a e
    → Takes k (with_lone k a e n l c) (lone a) true
unfolding progress_from_latest
lone_takes k a e n l c kept due less more count all h s lines t =
    let at : OpenProgress = progress_from_latest s lines in
    let f = h.fits at (sym t.last_edge) in
    let w = lone_within k a e h in
    let is_e : edge_in (shell_of s) (lone a) ≡ Some e = subst (λ d. edge_in d (lone a) ≡ Some e) t.rows f.1 in
    let rows : length k.rows.rows ≡ length (shell_of s).rows = ap (λ (d : ShellRows). length d.rows) t.rows in (
      (omega (arith, due, t.edges_due), subst (λ d. FitsLone d at a) t.rows f.0, λ one. omega (arith, all (omega (arith, one, t.edges_due)), t.listed, rows)),
      record {
        entity = t.entity;
        rows = t.rows;
        first = λ e. absurd (due_begun k kept (omega (arith, due)) e);
        begun = t.begun;
        mates = t.mates;
        lone = rows_more k.lone at.lone a w.0 (omega (arith, w.1, kept.each_lone)) t.lone;
        lone_count = omega (arith, count, t.lone_count);
        reached = t.reached;
        edges_due = omega (arith, less, t.edges_due);
        corners_due = t.corners_due;
        reach_due = t.reach_due;
        borders_due = t.borders_due;
        listed = omega (arith, more, t.listed);
        bordered = t.bordered;
        last_edge = ap (λ o. first_of (cons_option o (filter_map (edge_in (shell_of s)) lines))) (sym is_e);
        last_vertex = t.last_vertex;
        last_border = t.last_border;
      },
    )

pub lone_unfit : (k new : OpenCheckState) (a : ℕ) → ((at : OpenProgress) → at.last_edge ≡ k.last_edge → FitsLone k.rows at a → ⊥) → Takes k new (lone a) false
lone_unfit k new a never s lines t f =
    never (progress_from_latest s lines) (sym t.last_edge) (subst (λ d. FitsLone d (progress_from_latest s lines) a) (sym t.rows) f.1)

pub lone_short : (k new : OpenCheckState) (a : ℕ) → ((k.edges_due ≡ 1 → k.listed + 1 ≡ length k.rows.rows) → ⊥) → Takes k new (lone a) false
lone_short k new a never s lines t f =
    let rows : length k.rows.rows ≡ length (shell_of s).rows = ap (λ (d : ShellRows). length d.rows) t.rows in
    never (λ one. omega (arith, f.2 (omega (arith, one, t.edges_due)), t.listed, rows))

-- Corner, path and point lines.

abbrev pub with_vertex : OpenCheckState → ℕ → ℕ → OpenCheckState
with_vertex k v n = record k { corners_due = n; last_vertex = Some v }

pub vertex_kept : (k : OpenCheckState) (v n : ℕ) → IsCheckState k → 0 < k.corners_due → n ≡ k.corners_due - 1 → IsCheckState (with_vertex k v n)
vertex_kept k v n kept due less = record {
  sizes = kept.sizes;
  alone = kept.alone;
  in_order = kept.in_order;
  some_face = kept.some_face;
  each_row = kept.each_row;
  each_lone = kept.each_lone;
  each_face = kept.each_face;
  few_dues = omega (arith, kept.few_dues, less);
  few_listed = kept.few_listed;
  few_lone = kept.few_lone;
  unbegun = λ e. absurd (due_begun k kept (omega (arith, due)) e);
  passed = kept.passed;
}

cycle_open : (s : SolidData) (at : OpenProgress) (rs : List ℕ) → CornerDue at → FitsCornerLine (shell_of s) (shared at) rs → FitsOpen s at (cycle rs)
cycle_open s at [] due h = h
cycle_open s at (r ∷ rs) due h = (due, h)

cycle_line : (s : SolidData) (at : OpenProgress) (rs : List ℕ) → FitsOpen s at (cycle rs) → CornerDue at × FitsCornerLine (shell_of s) (shared at) rs
cycle_line s at [] h = absurd h
cycle_line s at (r ∷ rs) h = h

path_open : (s : SolidData) (at : OpenProgress) (rs : List ℕ) → CornerDue at → FitsPathLine (shell_of s) at rs → FitsOpen s at (path rs)
path_open s at [] due h = h
path_open s at (r ∷ rs) due h = (due, h)

path_line : (s : SolidData) (at : OpenProgress) (rs : List ℕ) → FitsOpen s at (path rs) → CornerDue at × FitsPathLine (shell_of s) at rs
path_line s at [] h = absurd h
path_line s at (r ∷ rs) h = h

cycle_vertex : (d : ShellRows) (rs : List ℕ) → vertex_in d (cycle rs) ≡ vertex_of d (pair_corner rs)
cycle_vertex d [] = refl
cycle_vertex d (r ∷ rs) = refl

-- the lines that a corner line leaves as they are told
abbrev CornerKind : OpenLine → Type 0
CornerKind (cycle rs) = Unit {0}
CornerKind (path rs) = Unit {0}
CornerKind (point face l) = Unit {0}
CornerKind _ = ⊥

vertex_told : (s : SolidData) (lines : List OpenLine) (line : OpenLine) (k : OpenCheckState) (v n : ℕ) → CornerKind line → IsCheckState k → 0 < k.corners_due
    → MatchesLines s lines k → n ≡ k.corners_due - 1 → vertex_in (shell_of s) line ≡ Some v → MatchesLines s (line ∷ lines) (with_vertex k v n)
unfolding progress_from_latest
vertex_told s lines (cycle rs) k v n kind kept due t less is_v = record {
  entity = t.entity;
  rows = t.rows;
  first = λ e. absurd (due_begun k kept (omega (arith, due)) e);
  begun = t.begun;
  mates = t.mates;
  lone = t.lone;
  lone_count = t.lone_count;
  reached = t.reached;
  edges_due = t.edges_due;
  corners_due = omega (arith, less, t.corners_due);
  reach_due = t.reach_due;
  borders_due = t.borders_due;
  listed = t.listed;
  bordered = t.bordered;
  last_edge = t.last_edge;
  last_vertex = ap (λ o. first_of (cons_option o (filter_map (vertex_in (shell_of s)) lines))) (sym is_v);
  last_border = t.last_border;
}
vertex_told s lines (path rs) k v n kind kept due t less is_v = record {
  entity = t.entity;
  rows = t.rows;
  first = λ e. absurd (due_begun k kept (omega (arith, due)) e);
  begun = t.begun;
  mates = t.mates;
  lone = t.lone;
  lone_count = t.lone_count;
  reached = t.reached;
  edges_due = t.edges_due;
  corners_due = omega (arith, less, t.corners_due);
  reach_due = t.reach_due;
  borders_due = t.borders_due;
  listed = t.listed;
  bordered = t.bordered;
  last_edge = t.last_edge;
  last_vertex = ap (λ o. first_of (cons_option o (filter_map (vertex_in (shell_of s)) lines))) (sym is_v);
  last_border = t.last_border;
}
vertex_told s lines (point face l) k v n kind kept due t less is_v = record {
  entity = t.entity;
  rows = t.rows;
  first = λ e. absurd (due_begun k kept (omega (arith, due)) e);
  begun = t.begun;
  mates = t.mates;
  lone = t.lone;
  lone_count = t.lone_count;
  reached = t.reached;
  edges_due = t.edges_due;
  corners_due = omega (arith, less, t.corners_due);
  reach_due = t.reach_due;
  borders_due = t.borders_due;
  listed = t.listed;
  bordered = t.bordered;
  last_edge = t.last_edge;
  last_vertex = ap (λ o. first_of (cons_option o (filter_map (vertex_in (shell_of s)) lines))) (sym is_v);
  last_border = t.last_border;
}
vertex_told s lines _ k v n kind kept due t less is_v = absurd kind

pub cycle_takes : (k : OpenCheckState) (rs : List ℕ) (v n : ℕ) → IsCheckState k → k.edges_due ≡ 0 → 0 < k.corners_due → n ≡ k.corners_due - 1
    → ((at : Progress) → HoldsMates k.mates at.mates → at.last_vertex ≡ k.last_vertex
    → FitsCornerLine k.rows at rs × (vertex_of k.rows (pair_corner rs) ≡ Some v)) → Takes k (with_vertex k v n) (cycle rs) true
cycle_takes k rs v n kept none due less fit s lines t =
    let at : OpenProgress = progress_from_latest s lines in
    let f = fit (shared at) t.mates (sym t.last_vertex) in (
      cycle_open s at rs (omega (arith, none, t.edges_due), omega (arith, due, t.corners_due)) (subst (λ d. FitsCornerLine d (shared at) rs) t.rows f.0),
      vertex_told s lines (cycle rs) k v n tt kept due t less (cycle_vertex (shell_of s) rs ∙ subst (λ d. vertex_of d (pair_corner rs) ≡ Some v) t.rows f.1),
    )

pub cycle_unfit : (k new : OpenCheckState) (rs : List ℕ)
    → ((at : Progress) → HoldsMates k.mates at.mates → at.last_vertex ≡ k.last_vertex → FitsCornerLine k.rows at rs → ⊥) → Takes k new (cycle rs) false
cycle_unfit k new rs never s lines t f =
    let at : OpenProgress = progress_from_latest s lines in
    never (shared at) t.mates (sym t.last_vertex) (subst (λ d. FitsCornerLine d (shared at) rs) (sym t.rows) (cycle_line s at rs f).1)

pub cycle_not_due : (k new : OpenCheckState) (rs : List ℕ) → (k.edges_due ≡ 0 → 0 < k.corners_due → ⊥) → Takes k new (cycle rs) false
cycle_not_due k new rs never s lines t f =
    let c = (cycle_line s (progress_from_latest s lines) rs f).0 in
    never (omega (arith, c.0, t.edges_due)) (omega (arith, c.1, t.corners_due))

pub path_takes : (k : OpenCheckState) (rs : List ℕ) (v n : ℕ) → IsCheckState k → k.edges_due ≡ 0 → 0 < k.corners_due → n ≡ k.corners_due - 1
    → ((at : OpenProgress) → HoldsMates k.mates at.mates → HoldsRows k.lone at.lone → at.last_vertex ≡ k.last_vertex
    → FitsPathLine k.rows at rs × (vertex_in k.rows (path rs) ≡ Some v)) → Takes k (with_vertex k v n) (path rs) true
path_takes k rs v n kept none due less fit s lines t =
    let at : OpenProgress = progress_from_latest s lines in
    let f = fit at t.mates t.lone (sym t.last_vertex) in (
      path_open s at rs (omega (arith, none, t.edges_due), omega (arith, due, t.corners_due)) (subst (λ d. FitsPathLine d at rs) t.rows f.0),
      vertex_told s lines (path rs) k v n tt kept due t less (subst (λ d. vertex_in d (path rs) ≡ Some v) t.rows f.1),
    )

pub path_unfit : (k new : OpenCheckState) (rs : List ℕ)
    → ((at : OpenProgress) → HoldsMates k.mates at.mates → HoldsRows k.lone at.lone → at.last_vertex ≡ k.last_vertex → FitsPathLine k.rows at rs → ⊥)
    → Takes k new (path rs) false
path_unfit k new rs never s lines t f =
    let at : OpenProgress = progress_from_latest s lines in
    never at t.mates t.lone (sym t.last_vertex) (subst (λ d. FitsPathLine d at rs) (sym t.rows) (path_line s at rs f).1)

pub path_not_due : (k new : OpenCheckState) (rs : List ℕ) → (k.edges_due ≡ 0 → 0 < k.corners_due → ⊥) → Takes k new (path rs) false
path_not_due k new rs never s lines t f =
    let c = (path_line s (progress_from_latest s lines) rs f).0 in
    never (omega (arith, c.0, t.edges_due)) (omega (arith, c.1, t.corners_due))

pub point_takes : (k : OpenCheckState) (face place v n : ℕ) → IsCheckState k → k.edges_due ≡ 0 → 0 < k.corners_due → n ≡ k.corners_due - 1
    → ((at : Progress) → at.last_vertex ≡ k.last_vertex → FitsPoint k.rows at face place × (vertex_of k.rows (pair_point face place) ≡ Some v))
    → Takes k (with_vertex k v n) (point face place) true
point_takes k face place v n kept none due less fit s lines t =
    let at : OpenProgress = progress_from_latest s lines in
    let f = fit (shared at) (sym t.last_vertex) in (
      ((omega (arith, none, t.edges_due), omega (arith, due, t.corners_due)), subst (λ d. FitsPoint d (shared at) face place) t.rows f.0),
      vertex_told s lines (point face place) k v n tt kept due t less (subst (λ d. vertex_of d (pair_point face place) ≡ Some v) t.rows f.1),
    )

pub point_unfit : (k new : OpenCheckState) (face place : ℕ) → ((at : Progress) → at.last_vertex ≡ k.last_vertex → FitsPoint k.rows at face place → ⊥)
    → Takes k new (point face place) false
point_unfit k new face place never s lines t f = let at : OpenProgress = progress_from_latest s lines in never (shared at) (sym t.last_vertex)
    (subst (λ d. FitsPoint d (shared at) face place) (sym t.rows) f.1)

-- Reach lines.

abbrev pub with_face : OpenCheckState → ℕ → ℕ → OpenCheckState
with_face k f n = record k { reached = slice_set k.reached f true; reach_due = n }

pub face_kept : (k : OpenCheckState) (f n : ℕ) → IsCheckState k → 0 < k.reach_due → n ≡ k.reach_due - 1 → IsCheckState (with_face k f n)
face_kept k f n kept due less = record {
  sizes = kept.sizes;
  alone = kept.alone;
  in_order = kept.in_order;
  some_face = kept.some_face;
  each_row = kept.each_row;
  each_lone = kept.each_lone;
  each_face = length-set k.reached f true ∙ kept.each_face;
  few_dues = omega (arith, kept.few_dues, less);
  few_listed = kept.few_listed;
  few_lone = kept.few_lone;
  unbegun = λ e. absurd (due_begun k kept (omega (arith, due)) e);
  passed = kept.passed;
}

pub reach_takes : (k : OpenCheckState) (r f n : ℕ) → IsCheckState k → f < length k.reached → k.edges_due ≡ 0 → k.corners_due ≡ 0 → 0 < k.reach_due
    → n ≡ k.reach_due - 1
    → ((at : Progress) → HoldsMates k.mates at.mates → HoldsFaces k.reached at.reached → FitsReach k.rows at r × (face_of k.rows (pair_reach r) ≡ Some f))
    → Takes k (with_face k f n) (reach r) true
unfolding progress_from_latest
reach_takes k r f n kept within no_edges no_corners due less fit s lines t =
    let at : OpenProgress = progress_from_latest s lines in
    let g = fit (shared at) t.mates t.reached in
    let others : List ℕ = filter_map (face_in (shell_of s)) lines in
    let is_f : face_in (shell_of s) (reach r) ≡ Some f = subst (λ d. face_of d (pair_reach r) ≡ Some f) t.rows g.1 in
    let held : HoldsFaces (slice_set k.reached f true) (0 ∷ f ∷ others) = faces_more k.reached 0 f others within t.reached in (
      (
        (omega (arith, no_edges, t.edges_due), omega (arith, no_corners, t.corners_due), omega (arith, due, t.reach_due)),
        subst
            (λ d. FitsReach d (shared at) r) t.rows g.0,
      ),
      record {
        entity = t.entity;
        rows = t.rows;
        first = λ e. absurd (due_begun k kept (omega (arith, due)) e);
        begun = t.begun;
        mates = t.mates;
        lone = t.lone;
        lone_count = t.lone_count;
        reached = subst (λ o. HoldsFaces (slice_set k.reached f true) (0 ∷ cons_option o others)) (sym is_f) held;
        edges_due = t.edges_due;
        corners_due = t.corners_due;
        reach_due = omega (arith, less, t.reach_due);
        borders_due = t.borders_due;
        listed = t.listed;
        bordered = t.bordered;
        last_edge = t.last_edge;
        last_vertex = t.last_vertex;
        last_border = t.last_border;
      },
    )

pub reach_unfit : (k new : OpenCheckState) (r : ℕ) → ((at : Progress) → HoldsMates k.mates at.mates → HoldsFaces k.reached at.reached
    → FitsReach k.rows at r → ⊥)
    → Takes k new (reach r) false
reach_unfit k new r never s lines t f = let at : OpenProgress = progress_from_latest s lines in never (shared at) t.mates t.reached
    (subst (λ d. FitsReach d (shared at) r) (sym t.rows) f.1)

-- Border lines.

abbrev pub with_border : OpenCheckState → ℕ → ℕ → ℕ → OpenCheckState
with_border k r n c = record k { borders_due = n; bordered = c; last_border = Some r }

pub border_kept : (k : OpenCheckState) (r n c : ℕ) → IsCheckState k → 0 < k.borders_due → n ≡ k.borders_due - 1 → IsCheckState (with_border k r n c)
border_kept k r n c kept due less = record {
  sizes = kept.sizes;
  alone = kept.alone;
  in_order = kept.in_order;
  some_face = kept.some_face;
  each_row = kept.each_row;
  each_lone = kept.each_lone;
  each_face = kept.each_face;
  few_dues = omega (arith, kept.few_dues, less);
  few_listed = kept.few_listed;
  few_lone = kept.few_lone;
  unbegun = λ e. absurd (due_begun k kept (omega (arith, due)) e);
  passed = kept.passed;
}

-- a count that stops at its limit
pub capped : (limit total more now next : ℕ) → now ≡ min total limit → next ≡ min (now + more) limit → next ≡ min (more + total) limit
capped limit total more now next is_now is_next = by_size (cases_lt total limit)
  where
    by_size : (total < limit) ⊎ (limit ≤ total) → next ≡ min (more + total) limit
    by_size (inl low) =
        let here : now ≡ total = is_now ∙ min-eq_left (omega (arith, low)) in
        let there : now + more ≡ more + total = omega (arith, here) in
        is_next ∙ ap (λ n. min n limit) there
    by_size (inr high) =
        let here : now ≡ limit = is_now ∙ min-eq_right high in
        let full : min (now + more) limit ≡ limit = min-eq_right (omega (arith, here)) in
        let whole : min (more + total) limit ≡ limit = min-eq_right (omega (arith, high)) in
        is_next ∙ (full ∙ sym whole)

border_line : (s : SolidData) (at : OpenProgress) (rs : List ℕ) → FitsOpen s at (border rs) → BorderDue at × FitsBorderLine (shell_of s) at rs
border_line s at [] h = absurd h
border_line s at (r ∷ rs) h = h

border_open : (s : SolidData) (at : OpenProgress) (rs : List ℕ) → BorderDue at → FitsBorderLine (shell_of s) at rs → FitsOpen s at (border rs)
border_open s at [] due h = h
border_open s at (r ∷ rs) due h = (due, h)

pub border_takes : (k : OpenCheckState) (rs : List ℕ) (r len n c : ℕ) → IsCheckState k → k.edges_due ≡ 0 → k.corners_due ≡ 0 → k.reach_due ≡ 0
    → 0 < k.borders_due
    → n ≡ k.borders_due - 1 → c ≡ min (k.bordered + len) count_limit
    → ((at : OpenProgress) → HoldsRows k.lone at.lone → at.last_border ≡ k.last_border → FitsBorderLine k.rows at rs × (border_in (border rs) ≡ Some r)
    × (length rs ≡ len)) → Takes k (with_border k r n c) (border rs) true
unfolding progress_from_latest
border_takes k rs r len n c kept no_edges no_corners no_reach due less counted fit s lines t =
    let at : OpenProgress = progress_from_latest s lines in
    let f = fit at t.lone (sym t.last_border) in (
      border_open s at rs (
        omega (arith, no_edges, t.edges_due),
        omega (arith, no_corners, t.corners_due),
        omega (arith, no_reach, t.reach_due),
        omega
            (arith, due, t.borders_due),
      ) (subst (λ d. FitsBorderLine d at rs) t.rows f.0),
      record {
        entity = t.entity;
        rows = t.rows;
        first = λ e. absurd (due_begun k kept (omega (arith, due)) e);
        begun = t.begun;
        mates = t.mates;
        lone = t.lone;
        lone_count = t.lone_count;
        reached = t.reached;
        edges_due = t.edges_due;
        corners_due = t.corners_due;
        reach_due = t.reach_due;
        borders_due = omega (arith, less, t.borders_due);
        listed = t.listed;
        bordered = capped count_limit (length (flat_map border_rows lines)) (length rs) k.bordered c t.bordered
            (counted ∙ ap (λ m. min (k.bordered + m) count_limit) (sym f.2))
            ∙ ap (λ m. min m count_limit) (sym (length-append rs (flat_map border_rows lines)));
        last_edge = t.last_edge;
        last_vertex = t.last_vertex;
        last_border = ap (λ o. first_of (cons_option o (filter_map border_in lines))) (sym f.1);
      },
    )

pub border_unfit : (k new : OpenCheckState) (rs : List ℕ)
    → ((at : OpenProgress) → HoldsRows k.lone at.lone → at.last_border ≡ k.last_border → FitsBorderLine k.rows at rs → ⊥) → Takes k new (border rs) false
border_unfit k new rs never s lines t f =
    let at : OpenProgress = progress_from_latest s lines in
    never at t.lone (sym t.last_border) (subst (λ d. FitsBorderLine d at rs) (sym t.rows) (border_line s at rs f).1)

pub border_not_due : (k new : OpenCheckState) (rs : List ℕ) → (k.edges_due ≡ 0 → k.corners_due ≡ 0 → k.reach_due ≡ 0 → 0 < k.borders_due → ⊥)
    → Takes k new (border rs) false
border_not_due k new rs never s lines t f =
    let c = (border_line s (progress_from_latest s lines) rs f).0 in
    never (omega (arith, c.0, t.edges_due)) (omega (arith, c.1, t.corners_due)) (omega (arith, c.2, t.reach_due)) (omega (arith, c.3, t.borders_due))

-- The SHELL line.

abbrev pub with_shell : OpenCheckState → ℕ → ℕ → ℕ → ℕ → OpenCheckState
with_shell k edges corners faces borders = record k { begun = true; edges_due = edges; corners_due = corners; reach_due = faces; borders_due = borders }

pub shell_takes : (k : OpenCheckState) (n rows edges corners faces borders : ℕ) → IsCheckState k → k.begun ≡ false → n ≡ k.entity
    → AreCounts k.rows rows edges corners faces → Takes k (with_shell k edges corners (faces - 1) borders) (shell n rows edges corners faces borders) true
unfolding progress_from_latest
shell_takes k n rows edges corners faces borders kept fresh named counts s lines t = at_first lines (t.first fresh) t
  where
    at_first : (ls : List OpenLine) → ls ≡ [] → MatchesLines s ls k
        → ((((progress_from_latest s ls).begun ≡ false) × FitsShell s n rows edges corners faces)
        × MatchesLines s (shell n rows edges corners faces borders ∷ ls)
        (with_shell k edges corners (faces - 1) borders))
    at_first (l ∷ ls) e t = absurd (let h : l ∷ ls ≡ [] = e in cc)
    at_first [] e t = (
      (
        sym t.begun ∙ fresh,
        record {
          names = named ∙ t.entity;
          rows_counted = subst (λ (d : ShellRows). rows ≡ length d.rows) t.rows counts.rows_counted;
          edges_counted = subst (λ (d : ShellRows). edges ≡ length d.edges) t.rows counts.edges_counted;
          corners_counted = subst (λ (d : ShellRows). corners ≡ length d.vertices) t.rows counts.corners_counted;
          faces_counted = subst (λ (d : ShellRows). faces ≡ d.face_count) t.rows counts.faces_counted;
        },
      ),
      record {
        entity = t.entity;
        rows = t.rows;
        first = λ e. absurd (true_false e);
        begun = refl;
        mates = t.mates;
        lone = t.lone;
        lone_count = t.lone_count;
        reached = t.reached;
        edges_due = omega arith;
        corners_due = omega arith;
        reach_due = omega arith;
        borders_due = omega arith;
        listed = t.listed;
        bordered = t.bordered;
        last_edge = t.last_edge;
        last_vertex = t.last_vertex;
        last_border = t.last_border;
      },
    )

pub shell_kept : (k : OpenCheckState) (rows edges corners faces borders : ℕ) → IsCheckState k → k.begun ≡ false → AreCounts k.rows rows edges corners faces
    → edges < 2 ^ 32 → corners < 2 ^ 32 → faces < 2 ^ 32 → borders < 2 ^ 32 → IsCheckState (with_shell k edges corners (faces - 1) borders)
shell_kept k rows edges corners faces borders kept fresh counts e c f b = record {
  sizes = kept.sizes;
  alone = kept.alone;
  in_order = kept.in_order;
  some_face = kept.some_face;
  each_row = kept.each_row;
  each_lone = kept.each_lone;
  each_face = kept.each_face;
  few_dues = omega (arith, e, c, f, b);
  few_listed = omega (arith, e, (kept.unbegun fresh).1);
  few_lone = omega (arith, e, (kept.unbegun fresh).2);
  unbegun = λ e. absurd (true_false e);
  passed = kept.passed;
}

pub shell_again : (k new : OpenCheckState) (n rows edges corners faces borders : ℕ) → k.begun ≡ true
    → Takes k new (shell n rows edges corners faces borders) false
shell_again k new n rows edges corners faces borders begun s lines t f = true_false (sym begun ∙ (t.begun ∙ f.0))

pub other_shell : (k new : OpenCheckState) (n rows edges corners faces borders : ℕ) → (n ≡ k.entity → ⊥)
    → Takes k new (shell n rows edges corners faces borders) false
other_shell k new n rows edges corners faces borders other s lines t f = other (f.1.names ∙ sym t.entity)

pub other_counts : (k new : OpenCheckState) (n rows edges corners faces borders : ℕ) → (AreCounts k.rows rows edges corners faces → ⊥)
    → Takes k new (shell n rows edges corners faces borders) false
other_counts k new n rows edges corners faces borders other s lines t f = other (record {
  rows_counted = subst (λ (d : ShellRows). rows ≡ length d.rows) (sym t.rows) f.1.rows_counted;
  edges_counted = subst (λ (d : ShellRows). edges ≡ length d.edges) (sym t.rows) f.1.edges_counted;
  corners_counted = subst (λ (d : ShellRows). corners ≡ length d.vertices) (sym t.rows) f.1.corners_counted;
  faces_counted = subst (λ (d : ShellRows). faces ≡ d.face_count) (sym t.rows) f.1.faces_counted;
})

-- no line
pub fresh_tells : (k : OpenCheckState) (s : SolidData) → k.entity ≡ s.entity.0 → k.rows ≡ shell_of s → k.begun ≡ false → HoldsMates k.mates []
    → HoldsRows k.lone []
    → k.lone_count ≡ 0 → HoldsFaces k.reached (0 ∷ []) → dues k ≡ 0 → k.listed ≡ 0 → k.bordered ≡ 0
    → k.last_edge ≡ None → k.last_vertex ≡ None → k.last_border ≡ None → MatchesLines s [] k
unfolding progress_from_latest
fresh_tells k s entity rows begun mates marks count reached none listed bordered is_edge_of is_vertex_of is_border_of = record {
  entity = entity;
  rows = rows;
  first = λ e. refl;
  begun = begun;
  mates = mates;
  lone = marks;
  lone_count = count;
  reached = reached;
  edges_due = omega (arith, none);
  corners_due = omega (arith, none);
  reach_due = omega (arith, none);
  borders_due = omega (arith, none);
  listed = listed;
  bordered = bordered ∙ sym (min-eq_left {n = 0} {m = count_limit} (omega arith));
  last_edge = is_edge_of;
  last_vertex = is_vertex_of;
  last_border = is_border_of;
}
