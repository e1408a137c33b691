-- What is kept of a shell, behind one more of its lines.
use Rattle.std.specs.Prelude.{◌≡◌, ℕ, ◌-◌, ◌<◌, ◌≤◌, true, false, List, [], ◌∷◌, length, Option, Some, None, IsSomeAnd, slice_set}
use Rattle.std.proofs.Common.{refl, sym, ◌∙◌, ap, subst, arith, ⊎_elim}
use Rattle.std.proofs.lemmas.List.{length-set}
use Rattle.std.proofs.lemmas.Option.{same_Some}
use Rattle.solid_data.specs.SolidData.{SolidData}
use Rattle.edge_uses.specs.declared.row.Row.{Row}
use Rattle.edge_uses.specs.ShellRows.{ShellRows}
use Rattle.cert_lines.specs.Line.{edge, corner, point, reach, tally}
use Rattle.cert_lines.specs.declared.counts.TallyCounts.{TallyCounts}
use Rattle.cert_state.specs.Progress.{Progress, progress_from_latest, rows_of_shell, loops_of_shell, row_named, edge_of, vertex_of, face_of, IsAbove, EdgeDue}
use Rattle.cert_state.specs.Progress.{CornerDue, ReachDue, TallyDue, FitsOpen, FitsEdge, FitsPoint, FitsReach, FitsTally}
use Rattle.cert_state.specs.CheckState.{ShellCheckState, IsCheckState, IsTally, HoldsMates, HoldsFaces}
use Rattle.cert_state.specs.Ring.{FitsCornerLine}
use Rattle.cert_state.specs.Matching.{MatchesShell, Takes}
use Rattle.cert_state.proofs.Progressing.{due_of, without_edge, without_corner, without_reach, without_tally, progress_of, edge_progress, corner_progress}
use Rattle.cert_state.proofs.Progressing.{point_progress, reach_progress, tally_progress, reached_is, others_reached}
use Rattle.cert_state.proofs.Arrays.{CanMate, MateCases, with_mates, mate_cases, mates_more, faces_more}
use Rattle.cert_state.proofs.CornerFits.{named_below}

-- Edge lines.

abbrev pub with_edge : ShellCheckState → ℕ → ℕ → ℕ → ShellCheckState
with_edge k a b e = record k { due = without_edge k.due; mates = with_mates k.mates a b; last_edge = Some e }

-- where an edge line fits behind the last edge
pub record EdgeFits (k : ShellCheckState) (a b e : ℕ) : Type 0 where
  pub fits : (at : Progress) → at.last_edge ≡ k.last_edge → FitsEdge k.rows at a b × (edge_of k.rows (edge a b) ≡ Some e)

-- the progress with this last edge
pub progress_at : Option ℕ → Progress
progress_at last = progress_of false 0 (due_of 0 0 0 0) [] last None []

pub progress_at_last : (last : Option ℕ) → (progress_at last).last_edge ≡ last
unfolding progress_at
progress_at_last last = refl

pub not_passed : (last : Option ℕ) (e f : ℕ) → IsAbove last e → IsSomeAnd last (λ m. f ≤ m) → f < e
not_passed None e f above passed = absurd passed
not_passed (Some m) e f above passed = omega (arith, above, passed)

pub can_mate : (k : ShellCheckState) (a b e : ℕ) → IsCheckState k → EdgeFits k a b e → CanMate k.mates a b
can_mate k a b e kept h = by_fit (h.fits (progress_at k.last_edge) (progress_at_last k.last_edge)).0
  where
    by_fit : FitsEdge k.rows (progress_at k.last_edge) a b → CanMate k.mates a b
    by_fit f =
        let pa = named_below k.rows a f.along_row f.at_a in
        let pb = named_below k.rows b f.against_row f.at_b in
        let above : IsAbove k.last_edge f.along_row.edge.0 = subst (λ o. IsAbove o f.along_row.edge.0) (progress_at_last k.last_edge) f.rises in
        let one : f.along_row.edge.0 ≡ f.against_row.edge.0 = ap (λ x. x.0) f.one_edge in
        record {
          pos_a = pa.0;
          pos_b = pb.0;
          within_a = omega (arith, pa.1, kept.each_row);
          within_b = omega (arith, pb.1, kept.each_row);
          differ = λ same. (let r : f.along_row ≡ f.against_row = same_Some f.along_row f.against_row (sym f.at_a ∙ (ap (row_named k.rows) same ∙ f.at_b)) in
              let t : true ≡ false = sym f.along ∙ (ap (λ (x : Row). x.along) r ∙ f.against) in
              cc);
          free_a = λ m is. (let p = kept.passed a m is in
              let r : p.0 ≡ f.along_row = same_Some p.0 f.along_row (sym p.1 ∙ f.at_a) in
              let q : p.0.edge.0 ≡ f.along_row.edge.0 = ap (λ (x : Row). x.edge.0) r in
              omega (arith, q, not_passed k.last_edge f.along_row.edge.0 p.0.edge.0 above p.2));
          free_b = λ m is. (let p = kept.passed b m is in
              let r : p.0 ≡ f.against_row = same_Some p.0 f.against_row (sym p.1 ∙ f.at_b) in
              let q : p.0.edge.0 ≡ f.against_row.edge.0 = ap (λ (x : Row). x.edge.0) r in
              omega (arith, q, one, not_passed k.last_edge f.along_row.edge.0 p.0.edge.0 above p.2));
        }

pub edge_kept : (k : ShellCheckState) (a b e : ℕ) → IsCheckState k → EdgeFits k a b e → IsCheckState (with_edge k a b e)
edge_kept k a b e kept h = record {
  sizes = kept.sizes;
  alone = kept.alone;
  in_order = kept.in_order;
  each_row = length-set (slice_set k.mates (a - 1) b) (b - 1) a ∙ (length-set k.mates (a - 1) b ∙ kept.each_row);
  each_face = kept.each_face;
  few = omega (arith, kept.few);
  passed = λ r m is. by_case r m (h.fits (progress_at k.last_edge) (progress_at_last k.last_edge)) (mate_cases k.mates a b r m (can_mate k a b e kept h) is);
}
  where
    by_case : (r m : ℕ) → FitsEdge k.rows (progress_at k.last_edge) a b × (edge_of k.rows (edge a b) ≡ Some e) → MateCases k.mates a b r m
        → (row : Row) × (row_named k.rows r ≡ Some row) × (row.edge.0 ≤ e)
    by_case r m (f, is_e) cases =
        let edge_is : f.along_row.edge.0 ≡ e = same_Some f.along_row.edge.0 e (sym (ap (λ o. edge_at o) f.at_a) ∙ is_e) in
        let one : f.along_row.edge.0 ≡ f.against_row.edge.0 = ap (λ x. x.0) f.one_edge in
        let above : IsAbove k.last_edge f.along_row.edge.0 = subst (λ o. IsAbove o f.along_row.edge.0) (progress_at_last k.last_edge) f.rises in
        ⊎_elim (λ p. (f.along_row, ap (row_named k.rows) p.0 ∙ f.at_a, omega (arith, edge_is)))
        (λ q. ⊎_elim (λ p. (f.against_row, ap (row_named k.rows) p.0 ∙ f.at_b, omega (arith, edge_is, one)))
        (λ old. let p = kept.passed r m old in (p.0, p.1, omega (arith, edge_is, not_passed k.last_edge f.along_row.edge.0 p.0.edge.0 above p.2))) q) cases
      where
        edge_at : Option Row → Option ℕ
        edge_at None = None
        edge_at (Some x) = Some x.edge.0

pub edge_takes : (k : ShellCheckState) (a b e : ℕ) → IsCheckState k → EdgeDue k.due → EdgeFits k a b e → Takes k (with_edge k a b e) (edge a b) true
edge_takes k a b e kept due h version s lines t =
    let at : Progress = progress_from_latest version s lines in
    let f = h.fits at (sym t.last_edge) in
    let held = mates_more k.mates at.mates a b (can_mate k a b e kept h) t.mates in
    let progress = edge_progress version s lines a b e (subst (λ d. edge_of d (edge a b) ≡ Some e) t.rows f.1) in (
      (subst EdgeDue t.due due, subst (λ d. FitsEdge d at a b) t.rows f.0),
      subst (λ x. MatchesShell s x (with_edge k a b e)) (sym progress) (record {
        begun = t.begun;
        rows = t.rows;
        loops = t.loops;
        due = ap without_edge t.due;
        last_edge = refl;
        last_vertex = t.last_vertex;
        mates = held;
        reached = t.reached;
      }),
    )

pub edge_not_due : (k new : ShellCheckState) (a b : ℕ) → ¬ EdgeDue k.due → Takes k new (edge a b) false
edge_not_due k new a b never version s lines t f = never (subst EdgeDue (sym t.due) f.0)

pub edge_unfit : (k new : ShellCheckState) (a b : ℕ) → ((at : Progress) → at.last_edge ≡ k.last_edge → FitsEdge k.rows at a b → ⊥) → Takes k new (edge a b) false
edge_unfit k new a b never version s lines t f = never (progress_from_latest version s lines) (sym t.last_edge)
    (subst (λ d. FitsEdge d (progress_from_latest version s lines) a b) (sym t.rows) f.1)

-- Corner and point lines.

abbrev pub with_vertex : ShellCheckState → ℕ → ShellCheckState
with_vertex k v = record k { due = without_corner k.due; last_vertex = Some v }

corner_open : (s : SolidData) (at : Progress) (rs : List ℕ) → CornerDue at.due → FitsCornerLine (rows_of_shell s at.shell) at rs → FitsOpen s at (corner rs)
corner_open s at [] due h = h
corner_open s at (r ∷ rs) due h = (due, h)

corner_line : (s : SolidData) (at : Progress) (rs : List ℕ) → FitsOpen s at (corner rs) → CornerDue at.due × FitsCornerLine (rows_of_shell s at.shell) at rs
corner_line s at [] h = absurd h
corner_line s at (r ∷ rs) h = h

vertex_told : (s : SolidData) (at : Progress) (k : ShellCheckState) (v : ℕ) → MatchesShell s at k
    → MatchesShell s (progress_of at.ended at.shell (without_corner at.due) at.mates at.last_edge (Some v) at.reached) (with_vertex k v)
vertex_told s at k v t = record {
  begun = t.begun;
  rows = t.rows;
  loops = t.loops;
  due = ap without_corner t.due;
  last_edge = t.last_edge;
  last_vertex = refl;
  mates = t.mates;
  reached = t.reached;
}

pub corner_takes : (k : ShellCheckState) (rs : List ℕ) (v : ℕ) → CornerDue k.due
    → ((at : Progress) → HoldsMates k.mates at.mates → at.last_vertex ≡ k.last_vertex → FitsCornerLine k.rows at rs × (vertex_of k.rows (corner rs) ≡ Some v))
    → Takes k (with_vertex k v) (corner rs) true
corner_takes k rs v due fit version s lines t =
    let at : Progress = progress_from_latest version s lines in
    let f = fit at t.mates (sym t.last_vertex) in
    let progress = corner_progress version s lines rs v (subst (λ d. vertex_of d (corner rs) ≡ Some v) t.rows f.1) in (
      corner_open s at rs (subst CornerDue t.due due) (subst (λ d. FitsCornerLine d at rs) t.rows f.0),
      subst (λ x. MatchesShell s x (with_vertex k v)) (sym progress) (vertex_told s at k v t),
    )

pub corner_unfit : (k new : ShellCheckState) (rs : List ℕ)
    → ((at : Progress) → HoldsMates k.mates at.mates → at.last_vertex ≡ k.last_vertex → FitsCornerLine k.rows at rs → ⊥) → Takes k new (corner rs) false
corner_unfit k new rs never version s lines t f =
    let at : Progress = progress_from_latest version s lines in
    never at t.mates (sym t.last_vertex) (subst (λ d. FitsCornerLine d at rs) (sym t.rows) (corner_line s at rs f).1)

pub corner_not_due : (k new : ShellCheckState) (rs : List ℕ) → ¬ CornerDue k.due → Takes k new (corner rs) false
corner_not_due k new rs never version s lines t f = never (subst CornerDue (sym t.due) (corner_line s (progress_from_latest version s lines) rs f).0)

pub point_takes : (k : ShellCheckState) (face place v : ℕ) → CornerDue k.due
    → ((at : Progress) → at.last_vertex ≡ k.last_vertex → FitsPoint k.rows at face place × (vertex_of k.rows (point face place) ≡ Some v))
    → Takes k (with_vertex k v) (point face place) true
point_takes k face place v due fit version s lines t =
    let at : Progress = progress_from_latest version s lines in
    let f = fit at (sym t.last_vertex) in
    let progress = point_progress version s lines face place v (subst (λ d. vertex_of d (point face place) ≡ Some v) t.rows f.1) in (
      (subst CornerDue t.due due, subst (λ d. FitsPoint d at face place) t.rows f.0),
      subst (λ x. MatchesShell s x (with_vertex k v)) (sym progress) (vertex_told s at k v t),
    )

pub point_not_due : (k new : ShellCheckState) (face place : ℕ) → ¬ CornerDue k.due → Takes k new (point face place) false
point_not_due k new face place never version s lines t f = never (subst CornerDue (sym t.due) f.0)

pub point_unfit : (k new : ShellCheckState) (face place : ℕ) → ((at : Progress) → at.last_vertex ≡ k.last_vertex → FitsPoint k.rows at face place → ⊥)
    → Takes k new (point face place) false
point_unfit k new face place never version s lines t f = let at : Progress = progress_from_latest version s lines in never at (sym t.last_vertex)
    (subst (λ d. FitsPoint d at face place) (sym t.rows) f.1)

-- Reach lines.

abbrev pub with_face : ShellCheckState → ℕ → ShellCheckState
with_face k f = record k { reached = slice_set k.reached f true; due = without_reach k.due }

pub reach_takes : (k : ShellCheckState) (r f : ℕ) → f < length k.reached → ReachDue k.due
    → ((at : Progress) → HoldsMates k.mates at.mates → HoldsFaces k.reached at.reached → FitsReach k.rows at r × (face_of k.rows (reach r) ≡ Some f))
    → Takes k (with_face k f) (reach r) true
reach_takes k r f within due fit version s lines t =
    let at : Progress = progress_from_latest version s lines in
    let g = fit at t.mates t.reached in
    let progress = reach_progress version s lines r f (subst (λ d. face_of d (reach r) ≡ Some f) t.rows g.1) in
    let held : HoldsFaces (slice_set k.reached f true) (0 ∷ f ∷ others_reached s lines) =
    faces_more k.reached 0 f (others_reached s lines) within (subst (HoldsFaces k.reached) (reached_is version s lines) t.reached) in (
      (subst ReachDue t.due due, subst (λ d. FitsReach d at r) t.rows g.0),
      subst (λ x. MatchesShell s x (with_face k f)) (sym progress) (record {
        begun = t.begun;
        rows = t.rows;
        loops = t.loops;
        due = ap without_reach t.due;
        last_edge = t.last_edge;
        last_vertex = t.last_vertex;
        mates = t.mates;
        reached = held;
      }),
    )

pub reach_not_due : (k new : ShellCheckState) (r : ℕ) → ¬ ReachDue k.due → Takes k new (reach r) false
reach_not_due k new r never version s lines t f = never (subst ReachDue (sym t.due) f.0)

pub reach_unfit : (k new : ShellCheckState) (r : ℕ) → ((at : Progress) → HoldsMates k.mates at.mates → HoldsFaces k.reached at.reached → FitsReach k.rows at r → ⊥)
    → Takes k new (reach r) false
reach_unfit k new r never version s lines t f = let at : Progress = progress_from_latest version s lines in never at t.mates t.reached
    (subst (λ d. FitsReach d at r) (sym t.rows) f.1)

-- TALLY lines.

abbrev pub with_tally : ShellCheckState → ShellCheckState
with_tally k = record k { due = without_tally k.due }

tally_is : (s : SolidData) (k : ℕ) (d : ShellRows) (loops : ℕ) (t : TallyCounts) → d ≡ rows_of_shell s k → loops ≡ loops_of_shell s k → IsTally d loops t
    → FitsTally s k t
tally_is s k d loops t is_d is_loops h = record {
  vertices_counted = h.vertices_counted ∙ ap (λ (d : ShellRows). length d.vertices) is_d;
  edges_counted = h.edges_counted ∙ ap (λ (d : ShellRows). length d.edges) is_d;
  faces_counted = h.faces_counted ∙ ap (λ (d : ShellRows). d.face_count) is_d;
  loops_counted = h.loops_counted ∙ is_loops;
}

is_tally : (s : SolidData) (k : ℕ) (d : ShellRows) (loops : ℕ) (t : TallyCounts) → d ≡ rows_of_shell s k → loops ≡ loops_of_shell s k → FitsTally s k t
    → IsTally d loops t
is_tally s k d loops t is_d is_loops h = record {
  vertices_counted = h.vertices_counted ∙ ap (λ (d : ShellRows). length d.vertices) (sym is_d);
  edges_counted = h.edges_counted ∙ ap (λ (d : ShellRows). length d.edges) (sym is_d);
  faces_counted = h.faces_counted ∙ ap (λ (d : ShellRows). d.face_count) (sym is_d);
  loops_counted = h.loops_counted ∙ sym is_loops;
}

pub tally_takes : (k : ShellCheckState) (w : TallyCounts) → TallyDue k.due → IsTally k.rows k.loops w → Takes k (with_tally k) (tally w) true
tally_takes k w due counts version s lines t =
    let at : Progress = progress_from_latest version s lines in
    let progress = tally_progress version s lines w in (
      (subst TallyDue t.due due, tally_is s at.shell k.rows k.loops w t.rows t.loops counts),
      subst (λ x. MatchesShell s x (with_tally k)) (sym progress) (record {
        begun = t.begun;
        rows = t.rows;
        loops = t.loops;
        due = ap without_tally t.due;
        last_edge = t.last_edge;
        last_vertex = t.last_vertex;
        mates = t.mates;
        reached = t.reached;
      }),
    )

pub tally_unfit : (k new : ShellCheckState) (w : TallyCounts) → (IsTally k.rows k.loops w → ⊥) → Takes k new (tally w) false
tally_unfit k new w never version s lines t f = never (is_tally s (progress_from_latest version s lines).shell k.rows k.loops w t.rows t.loops f.1)

pub tally_not_due : (k new : ShellCheckState) (w : TallyCounts) → ¬ TallyDue k.due → Takes k new (tally w) false
tally_not_due k new w never version s lines t f = never (subst TallyDue (sym t.due) f.0)
