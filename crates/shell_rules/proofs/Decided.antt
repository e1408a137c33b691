-- Of each obligation on the shells of a solid it can be told whether it holds.
use Rattle.std.specs.Prelude.{◌≡◌, ℕ, ◌<◌, true, false, not, ◌++◌, length, flat_map, take, Some, slice_get}
use Rattle.std.specs.List.{enumerate_from}
use Rattle.std.proofs.Common.{refl, ap, subst}
use Rattle.std.proofs.lemmas.Option.{slice_get_within}
use Rattle.solid_data.specs.Chain.{LeadsTo}
use Rattle.solid_data.specs.SolidData.{SolidData, PlacedLoop, placed_loops, shell_vertices, edge_name, vertex_name}
use Rattle.solid_data.specs.declared.solid.EdgeId.{EdgeId}
use Rattle.solid_data.specs.declared.solid.FaceUse.{FaceUse}
use Rattle.solid_data.specs.declared.solid.Loop.{Loop}
use Rattle.solid_data.specs.declared.solid.Shell.{Shell}
use Rattle.solid_data.specs.declared.verdict.Rule.TheVariants.{Unjoined, Unpaired, Unreached, Unlinked, Shared}
use Rattle.solid_data.specs.Obligations.{obligation}
use Rattle.solid_data.proofs.Decisions.{Decided, decided_alike, decided_same, decided_bool, decided_both, decided_three, decided_either, decided_not}
use Rattle.solid_data.proofs.Decisions.{decided_implies, decided_found, decided_bounded, decided_each, decided_contains, above_all, below_all}
use Rattle.solid_data.proofs.ChainsDecided.{leads_decided}
use Rattle.solid_data.proofs.ObligationsDecided.{AreDecided, decided-append, decided-map, decided-of_each}
use Rattle.edge_uses.specs.declared.row.Row.{Row}
use Rattle.edge_uses.specs.ShellRows.{ShellRows, shell_rows}
use Rattle.edge_uses.specs.RowRelations.{row_count, point_count, AreMates, Follows, Turns, StartsAt, OnFace, IsPaired}
use Rattle.edge_uses.specs.Around.{IsCorner, IsPoint, IsLinked, AreNeighbours, IsReached}
use Rattle.edge_uses.specs.Before.{IsApart}
use Rattle.edge_uses.specs.Joins.{loop_obligations, join_obligations}
use Rattle.shell_rules.specs.ShellObligations.{at_edge, at_vertex, pair_obligations, reach_obligations, link_obligations}
use Rattle.shell_rules.specs.ShellObligations.{apart_obligations, shell_obligations, solid_obligations, checked_of_shell, checked_obligations}

pub edge_id_decided : (a b : EdgeId) → Decided (a ≡ b)
edge_id_decided a b = decided_alike (λ e. (let same : ◌≡◌ {A = EdgeId} (record { 0 = a.0 }) (record { 0 = b.0 }) = ap (λ (n : ℕ). record { 0 = n }) e in same))
    (λ e. ap (λ (x : EdgeId). x.0) e) (decided_same a.0 b.0)

-- Rows.

abbrev AreOpposite : Row → Row → Type 0
AreOpposite row mate = (row.edge ≡ mate.edge) × (row.along ≡ not mate.along)

mates_decided : (d : ShellRows) (r m : ℕ) → Decided (AreMates d r m)
mates_decided d r m =
    decided_alike (λ (row, at_r, (mate, at_m, (one, other))). record { row = row; mate = mate; at_r = at_r; at_m = at_m; one_edge = one; opposite = other })
    (λ h. (h.row, h.at_r, (h.mate, h.at_m, (h.one_edge, h.opposite))))
    (decided_found (slice_get d.rows r) (λ row. (mate : Row) × (slice_get d.rows m ≡ Some mate) × AreOpposite row mate)
    (λ row. decided_found (slice_get d.rows m) (AreOpposite row)
    (λ mate. decided_both (edge_id_decided row.edge mate.edge) (decided_bool row.along (not mate.along)))))

starts_decided : (d : ShellRows) (v r : ℕ) → Decided (StartsAt d v r)
starts_decided d v r = decided_found (slice_get d.rows r) (λ (row : Row). row.from.0 ≡ v) (λ row. decided_same row.from.0 v)

on_face_decided : (d : ShellRows) (face r : ℕ) → Decided (OnFace d face r)
on_face_decided d face r = decided_found (slice_get d.rows r) (λ (row : Row). row.at.face.0 ≡ face) (λ row. decided_same row.at.face.0 face)

-- Turns.

pub follows_decided : (d : ShellRows) (r s : ℕ) → Decided (Follows d r s)
follows_decided d r s = decided_alike (λ (x, e, same). subst (λ z. slice_get d.follows r ≡ Some z) same e) (λ e. (s, e, refl))
    (decided_found (slice_get d.follows r) (λ x. x ≡ s) (λ x. decided_same x s))

pub turns_decided : (d : ShellRows) (r s : ℕ) → Decided (Turns d r s)
turns_decided d r s =
    decided_alike (λ (m, lt, (mates, follows)). (m, mates, follows)) (λ (m, mates, follows). (m, slice_get_within d.follows m s follows, (mates, follows)))
    (decided_bounded (λ m. AreMates d r m × Follows d m s) (λ m. decided_both (mates_decided d r m) (follows_decided d m s)) (length d.follows))

pub number : ℕ → ℕ
number n = n

pub turns_below : (d : ShellRows) (r s : ℕ) → Turns d r s → s < above_all number d.follows
unfolding number
turns_below d r s (m, mates, follows) = below_all number d.follows m s follows

chains_decided : (d : ShellRows) (r s : ℕ) → Decided (LeadsTo (Turns d) r s)
chains_decided d r s = leads_decided (Turns d) (turns_decided d) (above_all number d.follows) (turns_below d) r s

-- Vertices.

abbrev OneCycleFrom : ShellRows → ℕ → ℕ → Type 0
OneCycleFrom d v r = (s : ℕ) → s < length d.rows → StartsAt d v r → StartsAt d v s → LeadsTo (Turns d) r s

one_cycle_from : (d : ShellRows) (v r : ℕ) → Decided (OneCycleFrom d v r)
one_cycle_from d v r =
    decided_each (λ s. StartsAt d v r → StartsAt d v s → LeadsTo (Turns d) r s)
    (λ s. decided_implies (starts_decided d v r) (decided_implies (starts_decided d v s) (chains_decided d r s))) (length d.rows)

starts_within : (d : ShellRows) (v r : ℕ) → StartsAt d v r → r < length d.rows
starts_within d v r (row, at_r, e) = slice_get_within d.rows r row at_r

pub some_start : (d : ShellRows) (v : ℕ) → Decided ((r : ℕ) × StartsAt d v r)
some_start d v = decided_alike (λ (r, lt, h). (r, h)) (λ (r, h). (r, starts_within d v r h, h))
    (decided_bounded (StartsAt d v) (starts_decided d v) (length d.rows))

corner_decided : (d : ShellRows) (v : ℕ) → Decided (IsCorner d v)
corner_decided d v =
    decided_alike (λ (some, cycle, none).
    record { some = some; one_cycle = λ r s at_r at_s. cycle r (starts_within d v r at_r) s (starts_within d v s at_s) at_r at_s; no_point = none })
    (λ h. (h.some, (λ r lt s below at_r at_s. h.one_cycle r s at_r at_s), h.no_point))
    (decided_three (some_start d v) (decided_each (OneCycleFrom d v) (one_cycle_from d v) (length d.rows)) (decided_same (point_count d v) 0))

pub point_decided : (d : ShellRows) (v : ℕ) → Decided (IsPoint d v)
point_decided d v =
    decided_alike (λ (none, one). record { no_row = λ r h. none (r, h); one_point = one }) (λ h. ((λ (r, at_r). h.no_row r at_r), h.one_point))
    (decided_both (decided_not (some_start d v)) (decided_same (point_count d v) 1))

pub linked_decided : (d : ShellRows) (v : ℕ) → Decided (IsLinked d v)
linked_decided d v = decided_either (corner_decided d v) (point_decided d v)

-- Faces.

abbrev HasMateOn : ShellRows → ℕ → ℕ → ℕ → Type 0
HasMateOn d a b r = (m : ℕ) × (m < length d.rows) × (AreMates d r m × OnFace d a r × OnFace d b m)

neighbours_decided : (d : ShellRows) (a b : ℕ) → Decided (AreNeighbours d a b)
neighbours_decided d a b =
    decided_alike (λ (r, lt, (m, below, (mates, on_a, on_b))). (r, m, mates, on_a, on_b))
    (λ (r, m, mates, on_a, on_b).
    (r, slice_get_within d.rows r mates.row mates.at_r, (m, slice_get_within d.rows m mates.mate mates.at_m, (mates, on_a, on_b))))
    (decided_bounded (HasMateOn d a b)
    (λ r. decided_bounded (λ m. AreMates d r m × OnFace d a r × OnFace d b m)
    (λ m. decided_three (mates_decided d r m) (on_face_decided d a r) (on_face_decided d b m)) (length d.rows)) (length d.rows))

face_number : Row → ℕ
face_number row = row.at.face.0

neighbours_below : (d : ShellRows) (a b : ℕ) → AreNeighbours d a b → b < above_all face_number d.rows
unfolding face_number
neighbours_below d a b (r, m, mates, on_a, (row, at_m, e)) = subst (λ z. z < above_all face_number d.rows) e (below_all face_number d.rows m row at_m)

pub reached_decided : (d : ShellRows) (face : ℕ) → Decided (IsReached d face)
reached_decided d face = leads_decided (AreNeighbours d) (neighbours_decided d) (above_all face_number d.rows) (neighbours_below d) 0 face

-- Edges, and vertices of shells before.

pub paired_decided : (d : ShellRows) (e : ℕ) → Decided (IsPaired d e)
paired_decided d e = decided_both (decided_same (row_count d e true) 1) (decided_same (row_count d e false) 1)

pub apart_decided : (s : SolidData) (k v : ℕ) → Decided (IsApart s k v)
apart_decided s k v = decided_not (decided_contains decided_same (flat_map (shell_vertices s) (take k s.shells)) v)

-- Obligations.

join_decided : (s : SolidData) (shell : Shell) → AreDecided (join_obligations s shell)
join_decided s shell = decided-of_each (λ (p : PlacedLoop). loop_obligations s p.loop) (λ p. loop_decided p.loop) (placed_loops shell)
  where
    loop_decided : (l : Loop) → AreDecided (loop_obligations s l)
    loop_decided l = decided-map (λ (u : ℕ × ℕ × ℕ). obligation Unjoined l.entity.0 u.0 (u.1 ≡ u.2)) (λ u. decided_same u.1 u.2) _

apart_list_decided : (s : SolidData) (k : ℕ) (d : ShellRows) → AreDecided (apart_obligations s k d)
apart_list_decided s k d = decided-map (λ v. at_vertex Shared (vertex_name (slice_get s.vertices v)) (IsApart s k v)) (apart_decided s k) d.vertices

shell_decided : (s : SolidData) (h : ℕ × Shell) → AreDecided (shell_obligations s h)
unfolding shell_obligations
shell_decided s (k, shell) =
    let d = shell_rows s shell in
    let joins = join_obligations s shell in
    let pairs = pair_obligations s d in
    let reaches = reach_obligations shell d in
    let links = link_obligations s d in
    decided-append (joins ++ pairs ++ reaches ++ links) (apart_obligations s k d)
    (decided-append (joins ++ pairs ++ reaches) links
    (decided-append (joins ++ pairs) reaches
    (decided-append joins pairs (join_decided s shell)
    (decided-map (λ e. at_edge Unpaired (edge_name (slice_get s.edges e)) (IsPaired d e)) (paired_decided d) d.edges))
    (decided-map (λ (f : ℕ × FaceUse). obligation Unreached f.1.entity.0 0 (IsReached d f.0)) (λ f. reached_decided d f.0) (enumerate_from 0 shell.faces)))
    (decided-map (λ v. at_vertex Unlinked (vertex_name (slice_get s.vertices v)) (IsLinked d v)) (linked_decided d) d.vertices))
    (apart_list_decided s k d)

pub solid_decided : (s : SolidData) → AreDecided (solid_obligations s)
unfolding solid_obligations
solid_decided s = decided-of_each (shell_obligations s) (shell_decided s) (enumerate_from 0 s.shells)

pub checked_decided : (s : SolidData) → AreDecided (checked_obligations s)
unfolding checked_obligations
checked_decided s = decided-of_each (checked_of_shell s)
    (λ (k, shell). decided-append (join_obligations s shell) (apart_obligations s k (shell_rows s shell)) (join_decided s shell)
    (apart_list_decided s k (shell_rows s shell))) (enumerate_from 0 s.shells)
