-- Of each obligation on an open shell it can be told whether it holds.
use Rattle.std.specs.Prelude.{◌≡◌, ℕ, ◌<◌, ◌⊎◌, ⊤, not, List, [], ◌∷◌, ◌++◌, length, map, Some, slice_get}
use Rattle.std.specs.List.{enumerate_from}
use Rattle.std.proofs.Common.{refl, subst, inl, inr}
use Rattle.std.proofs.lemmas.Option.{slice_get_within}
use Rattle.solid_data.specs.Chain.{LeadsTo}
use Rattle.solid_data.specs.Obligations.{Obligation, obligation}
use Rattle.solid_data.specs.SolidData.{SolidData, PlacedLoop, placed_loops}
use Rattle.solid_data.specs.declared.solid.FaceUse.{FaceUse}
use Rattle.solid_data.specs.declared.solid.Loop.{Loop}
use Rattle.solid_data.specs.declared.solid.Shell.{Shell}
use Rattle.solid_data.specs.declared.verdict.Rule.TheVariants.{Unjoined, Unreached}
use Rattle.solid_data.proofs.Decisions.{Decided, decided_alike, decided_same, decided_bool, decided_both, decided_three, decided_either, decided_not}
use Rattle.solid_data.proofs.Decisions.{decided_implies, decided_found, decided_bounded, decided_each, above_all, below_all}
use Rattle.solid_data.proofs.ChainsDecided.{leads_decided}
use Rattle.solid_data.proofs.ObligationsDecided.{AreDecided, decided-map, decided-of_each}
use Rattle.edge_uses.specs.declared.row.Row.{Row}
use Rattle.edge_uses.specs.ShellRows.{ShellRows, shell_rows}
use Rattle.edge_uses.specs.RowRelations.{point_count, AreMates, Follows, Turns, StartsAt}
use Rattle.edge_uses.specs.Around.{IsPoint, IsReached}
use Rattle.edge_uses.specs.Joins.{loop_obligations, join_obligations}
use Rattle.shell_rules.specs.ShellObligations.{reach_obligations}
use Rattle.shell_rules.proofs.Decided.{number, edge_id_decided, paired_decided, reached_decided, follows_decided, turns_decided, turns_below, some_start, point_decided}
use Rattle.open_certificate.specs.Sound.{row_total, IsOnce, IsFan, IsFanned}
use Rattle.open_certificate.specs.Obligations.{OpenObligation, AllHold, FirstFalse, as_open, edge_obligation, fan_obligation, open_shell_obligations, of_shells}
use Rattle.open_certificate.specs.Obligations.{open_obligations}
use Rattle.open_certificate.specs.declared.verdict.OpenRule.{OpenRule}
use Rattle.open_certificate.specs.declared.verdict.OpenRule.TheVariants.{Join, Reach}
use Rattle.open_certificate.specs.declared.verdict.OpenFailing.{OpenFailing}

-- Turns.

mates_decided : (d : ShellRows) (r m : ℕ) → Decided (AreMates d r m)
mates_decided d r m =
    decided_alike (λ (row, at_r, (mate, at_m, (one, other))). record { row = row; mate = mate; at_r = at_r; at_m = at_m; one_edge = one; opposite = other })
    (λ h. (h.row, h.at_r, (h.mate, h.at_m, (h.one_edge, h.opposite))))
    (decided_found (slice_get d.rows r)
    (λ (row : Row). (mate : Row) × (slice_get d.rows m ≡ Some mate) × ((row.edge ≡ mate.edge) × (row.along ≡ not mate.along)))
    (λ row. decided_found (slice_get d.rows m) (λ (mate : Row). (row.edge ≡ mate.edge) × (row.along ≡ not mate.along))
    (λ mate. decided_both (edge_id_decided row.edge mate.edge) (decided_bool row.along (not mate.along)))))

chains_decided : (d : ShellRows) (r s : ℕ) → Decided (LeadsTo (Turns d) r s)
chains_decided d r s = leads_decided (Turns d) (turns_decided d) (above_all number d.follows) (turns_below d) r s

-- Vertices.

starts_decided : (d : ShellRows) (v r : ℕ) → Decided (StartsAt d v r)
starts_decided d v r = decided_found (slice_get d.rows r) (λ (row : Row). row.from.0 ≡ v) (λ row. decided_same row.from.0 v)

starts_within : (d : ShellRows) (v r : ℕ) → StartsAt d v r → r < length d.rows
starts_within d v r (row, at_r, e) = slice_get_within d.rows r row at_r

-- two rows at the vertex are in one fan
abbrev InOneFan : ShellRows → ℕ → ℕ → ℕ → Type 0
InOneFan d v r s = StartsAt d v r → StartsAt d v s → LeadsTo (Turns d) r s ⊎ LeadsTo (Turns d) s r

one_fan_from : (d : ShellRows) (v r : ℕ) → Decided ((s : ℕ) → s < length d.rows → InOneFan d v r s)
one_fan_from d v r =
    decided_each (InOneFan d v r)
    (λ s. decided_implies (starts_decided d v r) (decided_implies (starts_decided d v s) (decided_either (chains_decided d r s) (chains_decided d s r))))
    (length d.rows)

fan_decided : (d : ShellRows) (v : ℕ) → Decided (IsFan d v)
fan_decided d v =
    decided_alike (λ (some, fan, none).
    record { some = some; one_fan = λ r s at_r at_s. fan r (starts_within d v r at_r) s (starts_within d v s at_s) at_r at_s; no_point = none })
    (λ h. (h.some, (λ r lt s below at_r at_s. h.one_fan r s at_r at_s), h.no_point))
    (decided_three (some_start d v) (decided_each (λ r. (s : ℕ) → s < length d.rows → InOneFan d v r s) (one_fan_from d v) (length d.rows))
    (decided_same (point_count d v) 0))

fanned_decided : (d : ShellRows) (v : ℕ) → Decided (IsFanned d v)
fanned_decided d v = decided_either (fan_decided d v) (point_decided d v)

once_decided : (d : ShellRows) (e : ℕ) → Decided (IsOnce d e)
once_decided d e = decided_either (decided_same (row_total d e) 1) (paired_decided d e)

-- Loops.

pub join_decided : (s : SolidData) (h : Shell) → AreDecided (join_obligations s h)
join_decided s h = decided-of_each (λ (p : PlacedLoop). loop_obligations s p.loop) (λ p. loop_decided p.loop) (placed_loops h)
  where
    loop_decided : (l : Loop) → AreDecided (loop_obligations s l)
    loop_decided l = decided-map (λ (u : ℕ × ℕ × ℕ). obligation Unjoined l.entity.0 u.0 (u.1 ≡ u.2)) (λ u. decided_same u.1 u.2) _

-- Obligations.

abbrev AreAllDecided : List OpenObligation → Type 0
AreAllDecided [] = ⊤
AreAllDecided (o ∷ os) = Decided o.holds × AreAllDecided os

append_decided : (os ps : List OpenObligation) → AreAllDecided os → AreAllDecided ps → AreAllDecided (os ++ ps)
append_decided [] ps a b = b
append_decided (o ∷ os) ps a b = (a.0, append_decided os ps a.1 b)

map_decided : {A : Type 0} (g : A → OpenObligation) → ((x : A) → Decided ((g x).holds)) → (xs : List A) → AreAllDecided (map g xs)
map_decided g each [] = tt
map_decided g each (x ∷ xs) = (each x, map_decided g each xs)

as_open_decided : (rule : OpenRule) (os : List Obligation) → AreDecided os → AreAllDecided (map (as_open rule) os)
as_open_decided rule [] d = tt
as_open_decided rule (o ∷ os) d = (d.0, as_open_decided rule os d.1)

shell_decided : (s : SolidData) (h : Shell) → AreAllDecided (open_shell_obligations s h)
unfolding open_shell_obligations
shell_decided s h =
    let d = shell_rows s h in
    let joins = map (as_open Join) (join_obligations s h) in
    let edges = map (edge_obligation s d) d.edges in
    let reaches = map (as_open Reach) (reach_obligations h d) in
    let fans = map (fan_obligation s d) d.vertices in
    append_decided (joins ++ edges ++ reaches) fans
    (append_decided (joins ++ edges) reaches
    (append_decided joins edges (as_open_decided Join (join_obligations s h) (join_decided s h)) (map_decided (edge_obligation s d) (once_decided d) d.edges))
    (as_open_decided Reach (reach_obligations h d)
    (decided-map (λ (f : ℕ × FaceUse). obligation Unreached f.1.entity.0 0 (IsReached d f.0)) (λ f. reached_decided d f.0) (enumerate_from 0 h.faces))))
    (map_decided (fan_obligation s d) (fanned_decided d) d.vertices)

shells_decided : (s : SolidData) (hs : List Shell) → AreAllDecided (of_shells s hs)
shells_decided s [] = tt
shells_decided s (h ∷ hs) = append_decided (open_shell_obligations s h) (of_shells s hs) (shell_decided s h) (shells_decided s hs)

hold_or_false : (os : List OpenObligation) → AreAllDecided os → AllHold os ⊎ ((x : OpenFailing) × FirstFalse os x)
hold_or_false [] d = inl tt
hold_or_false (o ∷ os) d = by_first d.0 (hold_or_false os d.1)
  where
    by_first : Decided o.holds → AllHold os ⊎ ((x : OpenFailing) × FirstFalse os x) → AllHold (o ∷ os) ⊎ ((x : OpenFailing) × FirstFalse (o ∷ os) x)
    by_first (inr never) rest = inr (o.failing, inl (never, refl))
    by_first (inl holds) (inl all) = inl (holds, all)
    by_first (inl holds) (inr (x, false_one)) = inr (x, inr (holds, false_one))

pub all_or_first_false : (s : SolidData) → AllHold (open_obligations s) ⊎ ((x : OpenFailing) × FirstFalse (open_obligations s) x)
all_or_first_false s = hold_or_false (open_obligations s) (shells_decided s s.shells)
