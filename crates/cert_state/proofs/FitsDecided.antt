-- It can be told whether a line of each kind fits.
use Rattle.std.specs.Prelude.{◌≡◌, ℕ, zero, suc, ◌+◌, ◌*◌, ◌<◌, true, false, List, [], ◌∷◌, length, Contains, Option, Some, None, slice_get, option_map}
use Rattle.std.proofs.Common.{refl, sym, ◌∙◌, ap, subst, arith, inl, inr}
use Rattle.std.proofs.lemmas.Option.{same_Some, slice_get_within}
use Rattle.solid_data.specs.Ring.{next_of_each}
use Rattle.solid_data.specs.SolidData.{SolidData}
use Rattle.solid_data.specs.declared.solid.EdgeId.{EdgeId}
use Rattle.solid_data.specs.declared.solid.LoopAt.{LoopAt}
use Rattle.solid_data.proofs.Decisions.{Decided, decided_alike, decided_same, decided_some, decided_pair, decided_below, decided_bool, decided_both}
use Rattle.solid_data.proofs.Decisions.{decided_three, decided_four, decided_either, decided_not, decided_bounded, decided_all, decided_zip, decided_contains}
use Rattle.edge_uses.specs.declared.row.Row.{Row}
use Rattle.edge_uses.specs.ShellRows.{ShellRows}
use Rattle.edge_uses.specs.RowRelations.{point_count}
use Rattle.cert_lines.specs.Line.{CertLine, head, solid, shell, edge, corner, point, reach, tally, end}
use Rattle.cert_lines.specs.declared.counts.ShellCounts.{ShellCounts}
use Rattle.cert_lines.specs.declared.counts.TallyCounts.{TallyCounts}
use Rattle.cert_state.specs.Progress.{Progress, NoneDue, CornerDue, ReachDue, TallyDue, FitsShell, FitsEdge, FitsCorner, FitsPoint, FitsReach, FitsTally}
use Rattle.cert_state.specs.Progress.{IsAbove, IsMate, TurnsTo, FollowsAsNamed, row_named, row_start, row_face, point_named, start_count, rows_of_shell}
use Rattle.cert_state.specs.Progress.{loops_of_shell, FitsOpen, FitsLine}
use Rattle.cert_state.specs.declared.due.Due.{Due}
use Rattle.cert_state.proofs.CornerFits.{named_below}

-- What is due.

pub none_due_decided : (due : Due) → Decided (NoneDue due)
none_due_decided due =
    decided_alike (λ (e, c, r, t). record { edges = e; corners = c; reach = r; tally = t }) (λ h. (h.edges, h.corners, h.reach, h.tally))
    (decided_four (decided_same due.edges 0) (decided_same due.corners 0) (decided_same due.reach 0) (decided_same due.tally 0))

pub corner_due_decided : (due : Due) → Decided (CornerDue due)
corner_due_decided due = decided_both (decided_same due.edges 0) (decided_below 0 due.corners)

pub reach_due_decided : (due : Due) → Decided (ReachDue due)
reach_due_decided due = decided_three (decided_same due.edges 0) (decided_same due.corners 0) (decided_below 0 due.reach)

pub tally_due_decided : (due : Due) → Decided (TallyDue due)
tally_due_decided due = decided_four (decided_same due.edges 0) (decided_same due.corners 0) (decided_same due.reach 0) (decided_below 0 due.tally)

-- SHELL and TALLY lines.

pub shell_decided : (s : SolidData) (at : Progress) (k : ℕ) (counts : ShellCounts) → Decided (FitsShell s at k counts)
shell_decided s at k counts =
    let d : ShellRows = rows_of_shell s k in
    decided_alike (λ ((n, t, two), (r, e, c, f)).
    record { next = n; there = t; two_rows_each = two; rows_counted = r; edges_counted = e; corners_counted = c; faces_counted = f })
    (λ h. ((h.next, h.there, h.two_rows_each), (h.rows_counted, h.edges_counted, h.corners_counted, h.faces_counted)))
    (decided_both (decided_three (decided_same k (at.shell + 1)) (decided_below k (length s.shells + 1)) (decided_same (2 * counts.edges) counts.rows))
    (decided_four (decided_same counts.rows (length d.rows)) (decided_same counts.edges (length d.edges)) (decided_same counts.corners (length d.vertices))
    (decided_same counts.faces d.face_count)))

pub tally_decided : (s : SolidData) (k : ℕ) (t : TallyCounts) → Decided (FitsTally s k t)
tally_decided s k t =
    let d : ShellRows = rows_of_shell s k in
    decided_alike (λ (v, e, f, l). record { vertices_counted = v; edges_counted = e; faces_counted = f; loops_counted = l })
    (λ h. (h.vertices_counted, h.edges_counted, h.faces_counted, h.loops_counted))
    (decided_four (decided_same t.vertices (length d.vertices)) (decided_same t.edges (length d.edges)) (decided_same t.faces d.face_count)
    (decided_same t.loops (loops_of_shell s k)))

-- Edge lines.

pub above_decided : (last : Option ℕ) (n : ℕ) → Decided (IsAbove last n)
above_decided None n = inl tt
above_decided (Some m) n = decided_below m n

edge_id_decided : (a b : EdgeId) → Decided (a ≡ b)
edge_id_decided a b = decided_alike (λ e. (let same : ◌≡◌ {A = EdgeId} (record { 0 = a.0 }) (record { 0 = b.0 }) = ap (λ (n : ℕ). record { 0 = n }) e in same))
    (λ e. ap (λ (x : EdgeId). x.0) e) (decided_same a.0 b.0)

-- what a fitting edge line asks of its rows
abbrev AreEdgeRows : Progress → Row → Row → Type 0
AreEdgeRows at a b = (a.edge ≡ b.edge) × (a.along ≡ true) × (b.along ≡ false) × IsAbove at.last_edge a.edge.0

edge_rows : (d : ShellRows) (at : Progress) (a b : ℕ) (x y : Row) → row_named d a ≡ Some x → row_named d b ≡ Some y → FitsEdge d at a b → AreEdgeRows at x y
edge_rows d at a b x y at_a at_b h =
    subst (λ p. AreEdgeRows at p y) (same_Some h.along_row x (sym h.at_a ∙ at_a))
    (subst (AreEdgeRows at h.along_row) (same_Some h.against_row y (sym h.at_b ∙ at_b)) (h.one_edge, h.along, h.against, h.rises))

pub edge_decided : (d : ShellRows) (at : Progress) (a b : ℕ) → Decided (FitsEdge d at a b)
edge_decided d at a b = by_rows (row_named d a) (row_named d b) refl refl
  where
    by_rows : (o p : Option Row) → row_named d a ≡ o → row_named d b ≡ p → Decided (FitsEdge d at a b)
    by_rows None p at_a at_b = inr (λ h. let e : None ≡ Some h.along_row = sym at_a ∙ h.at_a in cc)
    by_rows (Some x) None at_a at_b = inr (λ h. let e : None ≡ Some h.against_row = sym at_b ∙ h.at_b in cc)
    by_rows (Some x) (Some y) at_a at_b =
        decided_alike (λ (one, along, against, rises).
        record { along_row = x; against_row = y; at_a = at_a; at_b = at_b; one_edge = one; along = along; against = against; rises = rises })
        (edge_rows d at a b x y at_a at_b)
        (decided_four (edge_id_decided x.edge y.edge) (decided_bool x.along true) (decided_bool y.along false) (above_decided at.last_edge x.edge.0))

-- Corner lines.

mate_decided : (mates : List (ℕ × ℕ)) (r m : ℕ) → Decided (IsMate mates r m)
mate_decided mates r m = decided_either (decided_contains decided_pair mates (r, m)) (decided_contains decided_pair mates (m, r))

pub follows_decided : (d : ShellRows) (r s : ℕ) → Decided (FollowsAsNamed d r s)
follows_decided d zero s = inr (λ h. h)
follows_decided d (suc r) zero = inr (λ h. h)
follows_decided d (suc r) (suc s) = decided_some (slice_get d.follows r) s

pub follows_below : (d : ShellRows) (r s : ℕ) → FollowsAsNamed d r s → r < suc (length d.follows)
follows_below d zero s h = omega arith
follows_below d (suc r) zero h = absurd h
follows_below d (suc r) (suc s) h = omega (arith, slice_get_within d.follows r s h)

-- a mate is searched for among the rows that another follows
pub turns_decided : (d : ShellRows) (mates : List (ℕ × ℕ)) (r s : ℕ) → Decided (TurnsTo d mates r s)
turns_decided d mates r s =
    decided_alike (λ (m, lt, (is, follows)). (m, is, follows)) (λ (m, is, follows). (m, follows_below d m s follows, (is, follows)))
    (decided_bounded (λ m. IsMate mates r m × FollowsAsNamed d m s) (λ m. decided_both (mate_decided mates r m) (follows_decided d m s))
    (suc (length d.follows)))

-- what a fitting corner line asks of its vertex
abbrev IsCornerVertex : ShellRows → Progress → ℕ → ℕ → Type 0
IsCornerVertex d at n v = (n ≡ start_count d v) × (point_count d v ≡ 0) × IsAbove at.last_vertex v

pub corner_decided : (d : ShellRows) (at : Progress) (r : ℕ) (rs : List ℕ) → Decided (FitsCorner d at r rs)
corner_decided d at r rs = by_vertex (row_start (row_named d r)) refl
  where
    by_vertex : (o : Option ℕ) → row_start (row_named d r) ≡ o → Decided (FitsCorner d at r rs)
    by_vertex None lies = inr (λ h. let e : None ≡ Some h.vertex = sym lies ∙ h.lies_at in cc)
    by_vertex (Some v) lies =
        decided_alike (λ (turns, least, (whole, none, rises)).
        record { vertex = v; lies_at = lies; turns = turns; least = least; whole = whole; no_point = none; rises = rises })
        (λ h. (h.turns, h.least, subst (IsCornerVertex d at (length (r ∷ rs))) (same_Some h.vertex v (sym h.lies_at ∙ lies)) (h.whole, h.no_point, h.rises)))
        (decided_three (decided_zip (TurnsTo d at.mates) (turns_decided d at.mates) (r ∷ rs) (next_of_each (r ∷ rs)))
        (decided_all (λ x. r < x) (decided_below r) rs)
        (decided_three (decided_same (length (r ∷ rs)) (start_count d v)) (decided_same (point_count d v) 0) (above_decided at.last_vertex v)))

-- Point lines.

abbrev IsPointVertex : ShellRows → Progress → ℕ → Type 0
IsPointVertex d at v = (start_count d v ≡ 0) × (point_count d v ≡ 1) × IsAbove at.last_vertex v

pub point_decided : (d : ShellRows) (at : Progress) (face l : ℕ) → Decided (FitsPoint d at face l)
point_decided d at face l = by_vertex (option_map (λ (p : LoopAt × ℕ). p.1) (point_named d face l)) refl
  where
    by_vertex : (o : Option ℕ) → option_map (λ (p : LoopAt × ℕ). p.1) (point_named d face l) ≡ o → Decided (FitsPoint d at face l)
    by_vertex None lies = inr (λ h. let e : None ≡ Some h.vertex = sym lies ∙ h.lies_at in cc)
    by_vertex (Some v) lies =
        decided_alike (λ (none, one, rises). record { vertex = v; lies_at = lies; no_row = none; one_point = one; rises = rises })
        (λ h. subst (IsPointVertex d at) (same_Some h.vertex v (sym h.lies_at ∙ lies)) (h.no_row, h.one_point, h.rises))
        (decided_three (decided_same (start_count d v) 0) (decided_same (point_count d v) 1) (above_decided at.last_vertex v))

-- Reach lines.

-- a row of a face that is not reached and its mate of a face that is
record ReachesBy (d : ShellRows) (at : Progress) (r mate : ℕ) : Type 0 where
  pub face : ℕ
  pub known : ℕ
  pub mates : IsMate at.mates r mate
  pub on_face : row_face (row_named d r) ≡ Some face
  pub on_known : row_face (row_named d mate) ≡ Some known
  pub new : ¬ Contains at.reached face
  pub old : Contains at.reached known

mate_below : (d : ShellRows) (m known : ℕ) (o : Option Row) → row_named d m ≡ o → row_face o ≡ Some known → m < suc (length d.rows)
mate_below d m known None e h = absurd cc
mate_below d m known (Some row) e h = omega (arith, (named_below d m row e).1)

reaches_decided : (d : ShellRows) (at : Progress) (r mate : ℕ) → Decided (ReachesBy d at r mate)
reaches_decided d at r mate = by_faces (row_face (row_named d r)) (row_face (row_named d mate)) refl refl
  where
    by_faces : (o p : Option ℕ) → row_face (row_named d r) ≡ o → row_face (row_named d mate) ≡ p → Decided (ReachesBy d at r mate)
    by_faces None p on_r on_mate = inr (λ h. let e : None ≡ Some h.face = sym on_r ∙ h.on_face in cc)
    by_faces (Some f) None on_r on_mate = inr (λ h. let e : None ≡ Some h.known = sym on_mate ∙ h.on_known in cc)
    by_faces (Some f) (Some k) on_r on_mate =
        decided_alike (λ (is, new, old). record { face = f; known = k; mates = is; on_face = on_r; on_known = on_mate; new = new; old = old })
        (λ h. (
          h.mates,
          subst (λ x. ¬ Contains at.reached x) (same_Some h.face f (sym h.on_face ∙ on_r)) h.new,
          subst (λ x. Contains at.reached x)
              (same_Some h.known k (sym h.on_known ∙ on_mate)) h.old,
        ))
        (decided_three (mate_decided at.mates r mate) (decided_not (decided_contains decided_same at.reached f)) (decided_contains decided_same at.reached k))

pub reach_decided : (d : ShellRows) (at : Progress) (r : ℕ) → Decided (FitsReach d at r)
reach_decided d at r =
    decided_alike (λ (m, lt, h).
    record { mate = m; face = h.face; known = h.known; mates = h.mates; on_face = h.on_face; on_known = h.on_known; new = h.new; old = h.old })
    (λ h. (
      h.mate,
      mate_below d h.mate h.known (row_named d h.mate) refl h.on_known,
      record { face = h.face; known = h.known; mates = h.mates; on_face = h.on_face; on_known = h.on_known; new = h.new; old = h.old },
    ))
    (decided_bounded (ReachesBy d at r) (reaches_decided d at r) (suc (length d.rows)))

-- Lines of all kinds.

pub open_decided : (s : SolidData) (at : Progress) (l : CertLine) → Decided (FitsOpen s at l)
open_decided s at (head v) = inr (λ h. h)
open_decided s at (solid n) = inr (λ h. h)
open_decided s at (shell k counts) = decided_both (none_due_decided at.due) (shell_decided s at k counts)
open_decided s at (edge a b) = decided_both (decided_below 0 at.due.edges) (edge_decided (rows_of_shell s at.shell) at a b)
open_decided s at (corner []) = inr (λ h. h)
open_decided s at (corner (r ∷ rs)) = decided_both (corner_due_decided at.due) (corner_decided (rows_of_shell s at.shell) at r rs)
open_decided s at (point face l) = decided_both (corner_due_decided at.due) (point_decided (rows_of_shell s at.shell) at face l)
open_decided s at (reach r) = decided_both (reach_due_decided at.due) (reach_decided (rows_of_shell s at.shell) at r)
open_decided s at (tally t) = decided_both (tally_due_decided at.due) (tally_decided s at.shell t)
open_decided s at end = decided_both (none_due_decided at.due) (decided_same at.shell (length s.shells))

pub line_decided : (s : SolidData) (at : Progress) (l : CertLine) → Decided (FitsLine s at l)
line_decided s at l = decided_both (decided_bool at.ended false) (open_decided s at l)
