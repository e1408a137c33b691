-- Lists of obligations on open shells.
use Rattle.std.specs.Prelude.{List, [], ◌∷◌, ◌++◌, map}
use Rattle.std.specs.List.{AllByRecursion, enumerate_from}
use Rattle.std.proofs.Common.{ap, inl, inr, ⊎_elim}
use Rattle.solid_data.specs.Obligations.{Obligation, FirstNot, AllHold as AllHoldClosed, FirstFalse as FirstFalseClosed}
use Rattle.solid_data.specs.SolidData.{SolidData, PlacedLoop, placed_loops}
use Rattle.solid_data.specs.declared.solid.Shell.{Shell}
use Rattle.solid_data.specs.declared.verdict.Failing.{Failing}
use Rattle.solid_data.proofs.ObligationLemmas.{AllHold-of_each, of_each-AllHold, AllHold-map, map-AllHold, AllByRecursion-weaker}
use Rattle.edge_uses.specs.ShellRows.{ShellRows, shell_rows}
use Rattle.edge_uses.specs.Joins.{IsJoined, loop_obligations, join_obligations}
use Rattle.edge_uses.specs.Around.{IsReached}
use Rattle.shell_rules.specs.ShellObligations.{reach_obligations}
use Rattle.edge_uses.proofs.JoinLemmas.{joined_from_hold, hold_from_joined}
use Rattle.shell_rules.proofs.ClosedLemmas.{numbered_from_enumerated, enumerated_from_numbered}
use Rattle.open_certificate.specs.Sound.{IsSoundShell}
use Rattle.open_certificate.specs.Obligations.{OpenObligation, AllHold, FirstFalse, open_failing, as_open, edge_obligation, fan_obligation}
use Rattle.open_certificate.specs.Obligations.{open_shell_obligations}
use Rattle.open_certificate.specs.declared.verdict.OpenRule.{OpenRule}
use Rattle.open_certificate.specs.declared.verdict.OpenRule.TheVariants.{Join, Reach}
use Rattle.open_certificate.specs.declared.verdict.OpenFailing.{OpenFailing}

pub hold_append : (os ps : List OpenObligation) → AllHold os → AllHold ps → AllHold (os ++ ps)
hold_append [] ps a b = b
hold_append (o ∷ os) ps a b = (a.0, hold_append os ps a.1 b)

pub hold_left : (os ps : List OpenObligation) → AllHold (os ++ ps) → AllHold os
hold_left [] ps h = tt
hold_left (o ∷ os) ps h = (h.0, hold_left os ps h.1)

pub hold_right : (os ps : List OpenObligation) → AllHold (os ++ ps) → AllHold ps
hold_right [] ps h = h
hold_right (o ∷ os) ps h = hold_right os ps h.1

pub false_front : (os ps : List OpenObligation) (x : OpenFailing) → FirstFalse os x → FirstFalse (os ++ ps) x
false_front [] ps x h = absurd h
false_front (o ∷ os) ps x h = ⊎_elim inl (λ rest. inr (rest.0, false_front os ps x rest.1)) h

pub false_rest : (os ps : List OpenObligation) (x : OpenFailing) → AllHold os → FirstFalse ps x → FirstFalse (os ++ ps) x
false_rest [] ps x a h = h
false_rest (o ∷ os) ps x a h = inr (a.0, false_rest os ps x a.1 h)

pub hold_map : {A : Type 0} (f : A → OpenObligation) (xs : List A) → AllByRecursion (λ x. (f x).holds) xs → AllHold (map f xs)
hold_map f [] h = tt
hold_map f (x ∷ xs) h = (h.0, hold_map f xs h.1)

pub map_hold : {A : Type 0} (f : A → OpenObligation) (xs : List A) → AllHold (map f xs) → AllByRecursion (λ x. (f x).holds) xs
map_hold f [] h = tt
map_hold f (x ∷ xs) h = (h.0, map_hold f xs h.1)

pub first_map : {A : Type 0} (f : A → OpenObligation) (xs : List A) (x : A) → FirstNot (λ y. (f y).holds) xs x → FirstFalse (map f xs) (f x).failing
first_map f [] x h = absurd h
first_map f (y ∷ ys) x h = ⊎_elim (λ p. inl (p.0, ap (λ z. (f z).failing) p.1)) (λ p. inr (p.0, first_map f ys x p.1)) h

pub as_open_hold : (rule : OpenRule) (os : List Obligation) → AllHoldClosed os → AllHold (map (as_open rule) os)
as_open_hold rule [] h = tt
as_open_hold rule (o ∷ os) h = (h.0, as_open_hold rule os h.1)

pub hold_as_open : (rule : OpenRule) (os : List Obligation) → AllHold (map (as_open rule) os) → AllHoldClosed os
hold_as_open rule [] h = tt
hold_as_open rule (o ∷ os) h = (h.0, hold_as_open rule os h.1)

-- the first false one, by the name of the open rule
pub as_open_false : (rule : OpenRule) (os : List Obligation) (x : Failing) → FirstFalseClosed os x
    → FirstFalse (map (as_open rule) os) (open_failing rule x.entity x.place)
as_open_false rule [] x h = absurd h
as_open_false rule (o ∷ os) x h = ⊎_elim (λ p. inl (p.0, ap (λ (y : Failing). open_failing rule y.entity y.place) p.1))
    (λ p. inr (p.0, as_open_false rule os x p.1)) h

-- The obligations on a shell hold exactly where it is sound.
pub hold_from_sound : (s : SolidData) (shell : Shell) → IsSoundShell s shell → AllHold (open_shell_obligations s shell)
unfolding open_shell_obligations
hold_from_sound s shell sound =
    let d : ShellRows = shell_rows s shell in
    hold_append _ (map (fan_obligation s d) d.vertices)
    (hold_append _ (map (as_open Reach) (reach_obligations shell d))
    (hold_append (map (as_open Join) (join_obligations s shell)) (map (edge_obligation s d) d.edges)
    (as_open_hold Join (join_obligations s shell)
    (of_each-AllHold (λ (p : PlacedLoop). loop_obligations s p.loop) (placed_loops shell)
    (AllByRecursion-weaker (λ (p : PlacedLoop). IsJoined s p.loop) (λ (p : PlacedLoop). AllHoldClosed (loop_obligations s p.loop)) (placed_loops shell)
    (λ p. hold_from_joined s p.loop) sound.joined)))
    (hold_map (edge_obligation s d) d.edges sound.once))
    (as_open_hold Reach (reach_obligations shell d)
    (map-AllHold _ (enumerate_from 0 shell.faces) (enumerated_from_numbered (IsReached d) 0 shell.faces sound.reached))))
    (hold_map (fan_obligation s d) d.vertices sound.fanned)

pub sound_from_hold : (s : SolidData) (shell : Shell) → AllHold (open_shell_obligations s shell) → IsSoundShell s shell
unfolding open_shell_obligations
sound_from_hold s shell all =
    let d : ShellRows = shell_rows s shell in
    let a : List OpenObligation = map (as_open Join) (join_obligations s shell) in
    let b : List OpenObligation = map (edge_obligation s d) d.edges in
    let c : List OpenObligation = map (as_open Reach) (reach_obligations shell d) in
    let e : List OpenObligation = map (fan_obligation s d) d.vertices in
    let abc : AllHold (a ++ b ++ c) = hold_left (a ++ b ++ c) e all in
    let ab : AllHold (a ++ b) = hold_left (a ++ b) c abc in
    record {
      joined = AllByRecursion-weaker (λ (p : PlacedLoop). AllHoldClosed (loop_obligations s p.loop)) (λ (p : PlacedLoop). IsJoined s p.loop)
          (placed_loops shell) (λ p. joined_from_hold s p.loop)
          (AllHold-of_each (λ (p : PlacedLoop). loop_obligations s p.loop) (placed_loops shell)
          (hold_as_open Join (join_obligations s shell) (hold_left a b ab)));
      once = map_hold (edge_obligation s d) d.edges (hold_right a b ab);
      reached = numbered_from_enumerated (IsReached d) 0 shell.faces
          (AllHold-map _ (enumerate_from 0 shell.faces) (hold_as_open Reach (reach_obligations shell d) (hold_right (a ++ b) c abc)));
      fanned = map_hold (fan_obligation s d) d.vertices (hold_right (a ++ b ++ c) e all);
    }
