-- What is checked beside the lines is that the loops join and the vertices are apart.
use Rattle.std.specs.Prelude.{◌≡◌, ℕ, ◌+◌, List, [], ◌∷◌}
use Rattle.std.specs.List.{AllByRecursion, enumerate_from}
use Rattle.std.proofs.Common.{subst}
use Rattle.iges_params.specs.Contents.{Contents}
use Rattle.brep_walk.specs.Places.{places}
use Rattle.brep_walk.specs.SolidOf.{solid_of}
use Rattle.solid_data.specs.SolidData.{SolidData, PlacedLoop, placed_loops}
use Rattle.solid_data.specs.Obligations.{AllHold, FirstFalse}
use Rattle.solid_data.specs.declared.solid.Shell.{Shell}
use Rattle.solid_data.specs.declared.verdict.Failing.{Failing}
use Rattle.solid_data.proofs.Members.{All-at, All-from, all_flat_map}
use Rattle.solid_data.proofs.ObligationLemmas.{AllHold-append, AllHold-append_left, AllHold-append_right, FirstFalse-append_front, FirstFalse-append_rest}
use Rattle.solid_data.proofs.ObligationLemmas.{AllHold-of_each, of_each-AllHold, AllHold-map, map-AllHold, AllByRecursion-weaker}
use Rattle.edge_uses.specs.ShellRows.{shell_rows}
use Rattle.edge_uses.specs.Before.{IsApart}
use Rattle.edge_uses.specs.Joins.{IsJoined, loop_obligations, join_obligations}
use Rattle.shell_rules.specs.ShellObligations.{apart_obligations, checked_of_shell, checked_obligations}
use Rattle.edge_uses.proofs.JoinLemmas.{joined_from_hold, hold_from_joined}
use Rattle.cert_lines.specs.declared.version.Version.{Version}
use Rattle.topo_certificate.specs.Legal.{IsLegal}
use Rattle.cert_accept.specs.Accepted.{AllJoin, AllApart, Certify}
use Rattle.cert_accept.specs.Accepted.{checked, AcceptedIsChecked}
use Rattle.shell_rules.specs.Faults.{IsCheckFault}
use Rattle.shell_rules.specs.declared.fault.CheckFault.{CheckFault}
use Rattle.shell_rules.specs.declared.fault.CheckFault.TheVariants.{Fails, NoMemory}
use Rattle.cert_accept.proofs.Sound.{shell_joined}

-- the parts of a list with places are the list
from_places : (P : Shell → Type 0) (base : ℕ) (xs : List Shell) → AllByRecursion (λ (h : ℕ × Shell). P h.1) (enumerate_from base xs) → AllByRecursion P xs
from_places P base [] h = tt
from_places P base (x ∷ xs) h = (h.0, from_places P (base + 1) xs h.1)

to_places : (P : Shell → Type 0) (base : ℕ) (xs : List Shell) → AllByRecursion P xs → AllByRecursion (λ (h : ℕ × Shell). P h.1) (enumerate_from base xs)
to_places P base [] h = tt
to_places P base (x ∷ xs) h = (h.0, to_places P (base + 1) xs h.1)

abbrev ShellJoins : SolidData → Shell → Type 0
ShellJoins s shell = AllByRecursion (λ (p : PlacedLoop). IsJoined s p.loop) (placed_loops shell)

abbrev ShellApart : SolidData → ℕ × Shell → Type 0
ShellApart s h = AllByRecursion (IsApart s h.0) (shell_rows s h.1).vertices

join_from : (s : SolidData) (shell : Shell) → AllHold (join_obligations s shell) → ShellJoins s shell
join_from s shell all =
    AllByRecursion-weaker (λ (p : PlacedLoop). AllHold (loop_obligations s p.loop)) (λ (p : PlacedLoop). IsJoined s p.loop) (placed_loops shell)
    (λ p. joined_from_hold s p.loop)
    (AllHold-of_each (λ (p : PlacedLoop). loop_obligations s p.loop) (placed_loops shell) all)

join_to : (s : SolidData) (shell : Shell) → ShellJoins s shell → AllHold (join_obligations s shell)
join_to s shell joins =
    of_each-AllHold (λ (p : PlacedLoop). loop_obligations s p.loop) (placed_loops shell)
    (AllByRecursion-weaker (λ (p : PlacedLoop). IsJoined s p.loop) (λ (p : PlacedLoop). AllHold (loop_obligations s p.loop)) (placed_loops shell)
    (λ p. hold_from_joined s p.loop) joins)

both_parts : (P Q R : ℕ × Shell → Type 0) (xs : List (ℕ × Shell)) → ((h : ℕ × Shell) → P h → Q h → R h) → AllByRecursion P xs → AllByRecursion Q xs
    → AllByRecursion R xs
both_parts P Q R [] f p q = tt
both_parts P Q R (x ∷ xs) f p q = (f x p.0 q.0, both_parts P Q R xs f p.1 q.1)

shell_from : (s : SolidData) (h : ℕ × Shell) → AllHold (checked_of_shell s h) → ShellJoins s h.1 × ShellApart s h
shell_from s h all = (
  join_from s h.1 (AllHold-append_left (join_obligations s h.1) (apart_obligations s h.0 (shell_rows s h.1)) all),
  AllHold-map _ (shell_rows s h.1).vertices (AllHold-append_right (join_obligations s h.1) (apart_obligations s h.0 (shell_rows s h.1)) all),
)

shell_to : (s : SolidData) (h : ℕ × Shell) → ShellJoins s h.1 → ShellApart s h → AllHold (checked_of_shell s h)
shell_to s h joins apart = AllHold-append (join_obligations s h.1) (apart_obligations s h.0 (shell_rows s h.1)) (join_to s h.1 joins)
    (map-AllHold _ (shell_rows s h.1).vertices apart)

parts_from : (s : SolidData) → AllHold (checked_obligations s) → AllJoin s × AllApart s
unfolding checked_obligations
parts_from s all =
    let each : AllByRecursion (λ h. AllHold (checked_of_shell s h)) (enumerate_from 0 s.shells) =
    AllHold-of_each (checked_of_shell s) (enumerate_from 0 s.shells) all in
    let joins : AllByRecursion (ShellJoins s) s.shells =
    from_places (ShellJoins s) 0 s.shells
    (AllByRecursion-weaker (λ h. AllHold (checked_of_shell s h)) (λ h. ShellJoins s h.1) (enumerate_from 0 s.shells) (λ h a. (shell_from s h a).0) each)
    in (
      all_flat_map (λ (p : PlacedLoop). IsJoined s p.loop) placed_loops s.shells (λ shell here. All-at (ShellJoins s) s.shells joins shell here),
      AllByRecursion-weaker (λ h. AllHold (checked_of_shell s h)) (ShellApart s) (enumerate_from 0 s.shells) (λ h a. (shell_from s h a).1) each,
    )

parts_to : (s : SolidData) → AllJoin s → AllApart s → AllHold (checked_obligations s)
unfolding checked_obligations
parts_to s joins apart =
    of_each-AllHold (checked_of_shell s) (enumerate_from 0 s.shells)
    (both_parts (λ h. ShellJoins s h.1) (ShellApart s) (λ h. AllHold (checked_of_shell s h)) (enumerate_from 0 s.shells) (shell_to s)
    (to_places (ShellJoins s) 0 s.shells (All-from (ShellJoins s) s.shells (λ shell here. shell_joined s shell joins here))) apart)

-- Lines certify a solid exactly where all that is checked of it holds and they are legal.
pub certified_checked : (v : Version) (f : Contents) (n : ℕ) (lines : List (List ℕ)) → Certify v f n lines → AllHold (checked f n)
unfolding checked
certified_checked v f n lines c = AllHold-append (places f n) (checked_obligations (solid_of f n)) c.placed (parts_to (solid_of f n) c.joined c.apart)

pub checked_certified : (v : Version) (f : Contents) (n : ℕ) (lines : List (List ℕ)) → AllHold (checked f n) → IsLegal v (solid_of f n) lines
    → Certify v f n lines
unfolding checked
checked_certified v f n lines all legal =
    let parts = parts_from (solid_of f n) (AllHold-append_right (places f n) (checked_obligations (solid_of f n)) all) in
    record { placed = AllHold-append_left (places f n) (checked_obligations (solid_of f n)) all; joined = parts.0; apart = parts.1; legal = legal }

pub accepted_is_checked : AcceptedIsChecked
accepted_is_checked v f n certificate = (
  λ a. (a.rest, a.opens, certified_checked v f n a.rest a.certified, a.certified.legal),
  λ (rest, opens, all, legal). record { rest = rest; opens = opens; certified = checked_certified v f n rest all legal },
)

-- The places come first, and then the shells of the solid that they tell.
pub place_fault : (f : Contents) (n : ℕ) (x : Failing) → FirstFalse (places f n) x → FirstFalse (checked f n) x
unfolding checked
place_fault f n x bad = FirstFalse-append_front (places f n) (checked_obligations (solid_of f n)) x bad

module _ (f : Contents) (n : ℕ) (s : SolidData) (same : s ≡ solid_of f n) (placed : AllHold (places f n)) where
  pub shells_hold : AllHold (checked_obligations s) → AllHold (checked f n)
  unfolding checked
  shells_hold all = AllHold-append (places f n) (checked_obligations (solid_of f n)) placed (subst (λ t. AllHold (checked_obligations t)) same all)

  pub shells_fault : (e : CheckFault) → IsCheckFault (checked_obligations s) e → IsCheckFault (checked f n) e
  unfolding checked
  shells_fault (Fails x) bad = FirstFalse-append_rest (places f n) (checked_obligations (solid_of f n)) x placed
      (subst (λ t. FirstFalse (checked_obligations t) x) same bad)
  shells_fault NoMemory bad = tt
