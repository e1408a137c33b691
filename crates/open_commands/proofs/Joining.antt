-- What is checked of an open shell is that its places hold and its loops join.
use Rattle.std.specs.Prelude.{◌≡◌, ℕ, [], ◌∷◌}
use Rattle.std.specs.List.{AllByRecursion}
use Rattle.std.proofs.Common.{sym, subst}
use Rattle.iges_params.specs.Contents.{Contents}
use Rattle.brep_walk.specs.OpenPlaces.{open_places, shell_solid_of}
use Rattle.brep_walk.proofs.Decided.{open_places_decided}
use Rattle.solid_data.specs.SolidData.{SolidData, PlacedLoop, placed_loops}
use Rattle.solid_data.specs.Obligations.{AllHold, FirstFalse, of_each}
use Rattle.solid_data.specs.declared.solid.Shell.{Shell}
use Rattle.solid_data.specs.declared.verdict.Failing.{Failing}
use Rattle.solid_data.proofs.Members.{All-at, All-from, all_flat_map, has_flat_map}
use Rattle.solid_data.proofs.ObligationLemmas.{AllHold-append, AllHold-append_left, AllHold-append_right, FirstFalse-append_front, FirstFalse-append_rest}
use Rattle.solid_data.proofs.ObligationLemmas.{AllHold-of_each, of_each-AllHold, AllByRecursion-weaker}
use Rattle.solid_data.proofs.ObligationsDecided.{AreDecided, decided-append, decided-of_each}
use Rattle.edge_uses.specs.Joins.{IsJoined, loop_obligations, join_obligations}
use Rattle.edge_uses.proofs.JoinLemmas.{joined_from_hold, hold_from_joined}
use Rattle.open_certificate.specs.Legal.{AllJoin}
use Rattle.open_certificate.proofs.RulesDecided.{join_decided}
use Rattle.open_commands.specs.Verdict.{joins, open_checked}

abbrev Joins : SolidData → PlacedLoop → Type 0
Joins s p = IsJoined s p.loop

join_from : (s : SolidData) (h : Shell) → AllHold (join_obligations s h) → AllByRecursion (Joins s) (placed_loops h)
join_from s h all =
    AllByRecursion-weaker (λ (p : PlacedLoop). AllHold (loop_obligations s p.loop)) (Joins s) (placed_loops h) (λ p. joined_from_hold s p.loop)
    (AllHold-of_each (λ (p : PlacedLoop). loop_obligations s p.loop) (placed_loops h) all)

join_to : (s : SolidData) (h : Shell) → AllByRecursion (Joins s) (placed_loops h) → AllHold (join_obligations s h)
join_to s h all =
    of_each-AllHold (λ (p : PlacedLoop). loop_obligations s p.loop) (placed_loops h)
    (AllByRecursion-weaker (Joins s) (λ (p : PlacedLoop). AllHold (loop_obligations s p.loop)) (placed_loops h) (λ p. hold_from_joined s p.loop) all)

joins_from : (s : SolidData) → AllHold (joins s) → AllJoin s
joins_from s all =
    let each : AllByRecursion (λ (h : Shell). AllHold (join_obligations s h)) s.shells = AllHold-of_each (join_obligations s) s.shells all in
    all_flat_map (Joins s) placed_loops s.shells (λ h here. join_from s h (All-at (λ (x : Shell). AllHold (join_obligations s x)) s.shells each h here))

joins_to : (s : SolidData) → AllJoin s → AllHold (joins s)
joins_to s all =
    of_each-AllHold (join_obligations s) s.shells
    (All-from (λ (h : Shell). AllHold (join_obligations s h)) s.shells
    (λ h here. join_to s h (All-from (Joins s) (placed_loops h) (λ p there. All-at (Joins s) _ all p (has_flat_map placed_loops s.shells h p here there)))))

pub checked_parts : (f : Contents) (n : ℕ) → AllHold (open_checked f n) → AllHold (open_places f n) × AllJoin (shell_solid_of f n)
unfolding open_checked
checked_parts f n all =
    let s = shell_solid_of f n in
    (AllHold-append_left (open_places f n) (joins s) all, joins_from s (AllHold-append_right (open_places f n) (joins s) all))

pub parts_checked : (f : Contents) (n : ℕ) → AllHold (open_places f n) → AllJoin (shell_solid_of f n) → AllHold (open_checked f n)
unfolding open_checked
parts_checked f n placed joined = AllHold-append (open_places f n) (joins (shell_solid_of f n)) placed (joins_to (shell_solid_of f n) joined)

pub checks_decided : (f : Contents) (n : ℕ) → AreDecided (open_checked f n)
unfolding open_checked
checks_decided f n =
    let s = shell_solid_of f n in
    decided-append (open_places f n) (joins s) (open_places_decided f n) (decided-of_each (join_obligations s) (join_decided s) s.shells)

-- The places come first, and then the loops of the shell that they tell.
pub place_fault : (f : Contents) (n : ℕ) (x : Failing) → FirstFalse (open_places f n) x → FirstFalse (open_checked f n) x
unfolding open_checked
place_fault f n x bad = FirstFalse-append_front (open_places f n) (joins (shell_solid_of f n)) x bad

module _ (f : Contents) (n : ℕ) (s : SolidData) (same : s ≡ shell_solid_of f n) (placed : AllHold (open_places f n)) (h : Shell)
    (alone : s.shells ≡ h ∷ []) where
  pub loops_hold : AllHold (join_obligations s h) → AllHold (open_checked f n)
  unfolding open_checked
  loops_hold all =
      AllHold-append (open_places f n) (joins (shell_solid_of f n)) placed
      (subst (λ t. AllHold (joins t)) same
      (subst (λ hs. AllHold (of_each (join_obligations s) hs)) (sym alone) (AllHold-append (join_obligations s h) [] all tt)))

  pub loops_fault : (x : Failing) → FirstFalse (join_obligations s h) x → FirstFalse (open_checked f n) x
  unfolding open_checked
  loops_fault x bad =
      FirstFalse-append_rest (open_places f n) (joins (shell_solid_of f n)) x placed
      (subst (λ t. FirstFalse (joins t) x) same
      (subst (λ hs. FirstFalse (of_each (join_obligations s) hs) x) (sym alone) (FirstFalse-append_front (join_obligations s h) [] x bad)))
