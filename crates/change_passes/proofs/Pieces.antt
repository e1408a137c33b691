-- Pieces in which nothing fails are closed.
use Rattle.std.specs.Prelude.{◌≡◌, ◌<◌, ◌++◌, ℕ, zero, suc, List, [], ◌∷◌}
use Rattle.std.specs.List.{enumerate_from}
use Rattle.std.proofs.Common.{refl, sym, arith}
use Rattle.solid_data.specs.Numbering.{IsNumberedSolid}
use Rattle.solid_data.specs.Obligations.{Obligation, AllHold}
use Rattle.solid_data.specs.SolidData.{SolidData, PlacedLoop, placed_loops, occurring}
use Rattle.solid_data.specs.declared.solid.Shell.{Shell}
use Rattle.solid_data.proofs.Members.{Has}
use Rattle.solid_data.proofs.ObligationLemmas.{AllHold-append_left, AllHold-append_right, AllHold-of_each, AllHold-map, AllByRecursion-weaker}
use Rattle.edge_uses.specs.Around.{IsReached}
use Rattle.edge_uses.specs.Joins.{IsJoined, loop_obligations, join_obligations}
use Rattle.edge_uses.specs.ShellRows.{ShellRows, shell_rows}
use Rattle.edge_uses.proofs.JoinLemmas.{joined_from_hold}
use Rattle.shell_rules.specs.Closed.{IsClosedShell}
use Rattle.shell_rules.specs.ShellObligations.{pair_obligations, reach_obligations, link_obligations, apart_obligations, shell_obligations}
use Rattle.shell_rules.proofs.ClosedLemmas.{numbered_from_enumerated}
use Rattle.shell_change.specs.declared.change.Change.{Change}
use Rattle.shell_change.specs.declared.change.VertexName.{VertexName}
use Rattle.shell_change.specs.Matching.{EachAt}
use Rattle.solid_faults.specs.Faults.{Faults, AreFaults, IsFaultless}
use Rattle.solid_faults.proofs.Definite.{faultless_holds}
use Rattle.change_passes.specs.Alone.{alone}
use Rattle.change_passes.specs.Closed.{HaveClosed}
use Rattle.change_passes.specs.Passes.{IsOldApart, Passes, pieces_before}

closed_from_hold : (s : SolidData) (k : ℕ) (shell : Shell) → AllHold (shell_obligations s (k, shell)) → IsClosedShell s k shell
unfolding shell_obligations
closed_from_hold s k shell all =
    let d : ShellRows = shell_rows s shell in
    let a : List Obligation = join_obligations s shell in
    let b : List Obligation = pair_obligations s d in
    let c : List Obligation = reach_obligations shell d in
    let e : List Obligation = link_obligations s d in
    let g : List Obligation = apart_obligations s k d in
    let abce : AllHold (a ++ b ++ c ++ e) = AllHold-append_left (a ++ b ++ c ++ e) g all in
    let abc : AllHold (a ++ b ++ c) = AllHold-append_left (a ++ b ++ c) e abce in
    let ab : AllHold (a ++ b) = AllHold-append_left (a ++ b) c abc in
    record {
      joined = AllByRecursion-weaker (λ (p : PlacedLoop). AllHold (loop_obligations s p.loop)) (λ (p : PlacedLoop). IsJoined s p.loop) (placed_loops shell)
          (λ p. joined_from_hold s p.loop)
          (AllHold-of_each (λ (p : PlacedLoop). loop_obligations s p.loop) (placed_loops shell) (AllHold-append_left a b ab));
      paired = AllHold-map _ d.edges (AllHold-append_right a b ab);
      reached = numbered_from_enumerated (IsReached d) 0 shell.faces (AllHold-map _ (enumerate_from 0 shell.faces) (AllHold-append_right (a ++ b) c abc));
      linked = AllHold-map _ d.vertices (AllHold-append_right (a ++ b ++ c) e abce);
      apart = AllHold-map _ d.vertices (AllHold-append_right (a ++ b ++ c ++ e) g all);
    }

closed_shell : (s : SolidData) (k : ℕ) (shell : Shell) (x : Faults) → IsNumberedSolid s → Has s.shells shell → AreFaults s k shell x → IsFaultless x
    → IsClosedShell s k shell
closed_shell s k shell x numbered has faults none = closed_from_hold s k shell (faultless_holds s k shell x numbered has faults none)

none_occurs : (ns : List ℕ) → occurring ns [] ≡ []
none_occurs [] = refl
none_occurs (n ∷ ns) = none_occurs ns

-- as the first shell
alone_faults : (s : SolidData) (k : ℕ) (shell : Shell) (x : Faults) → AreFaults s k shell x → AreFaults s 0 shell (alone x)
alone_faults s k shell x h =
    record { gaps = h.gaps; unpaired = h.unpaired; firsts = h.firsts; linking = h.linking; shared = sym (none_occurs (shell_rows s shell).vertices) }

pub piece_closed : (s : SolidData) (of k : ℕ) (shell : Shell) (x : Faults) → IsNumberedSolid s → Has s.shells shell → AreFaults s k shell x
    → (of ≡ 0 → IsFaultless (alone x)) → (0 < of → IsFaultless x) → IsClosedShell s (pieces_before of k) shell
piece_closed s zero k shell x numbered has faults outer void = closed_shell s 0 shell (alone x) numbered has (alone_faults s k shell x faults) (outer refl)
piece_closed s (suc of) k shell x numbered has faults outer void = closed_shell s k shell x numbered has faults (void (omega arith))

pub passing : (s : SolidData) (c : Change) (vs : List VertexName) → HaveClosed s c vs → EachAt (λ _ name. IsOldApart s c.shell.0 name) vs → Passes s c
passing s c vs h apart =
    record {
      shell = h.shell;
      at = h.at;
      pieces = h.pieces;
      vertices = vs;
      edges = h.edge_names;
      numbered = h.numbered;
      some = h.some;
      named = h.named;
      closed = h.closed;
      apart = apart;
    }
