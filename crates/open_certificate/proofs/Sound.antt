-- What has an accepted certificate is sound.
use Rattle.std.specs.Prelude.{◌≡◌, ℕ, ◌<◌, List, [], ◌∷◌, length, flat_map, slice_get}
use Rattle.std.specs.List.{AllByRecursion}
use Rattle.std.proofs.Common.{refl, sym, ap, subst, arith, inl}
use Rattle.std.proofs.lemmas.List.{append-nil}
use Rattle.solid_data.specs.SolidData.{SolidData, PlacedLoop, placed_loops}
use Rattle.solid_data.specs.Numbering.{IsNumberedSolid}
use Rattle.solid_data.specs.Ring.{numbers_from}
use Rattle.solid_data.specs.declared.solid.Shell.{Shell}
use Rattle.solid_data.proofs.Members.{Has, All-from}
use Rattle.solid_data.proofs.Occurring.{number_below}
use Rattle.edge_uses.specs.ShellRows.{shell_rows, rows_of}
use Rattle.edge_uses.specs.Joins.{IsJoined}
use Rattle.edge_uses.specs.Around.{IsReached}
use Rattle.edge_uses.proofs.RowLemmas.{ends_meet}
use Rattle.edge_uses.proofs.RowShape.{ends_exchanged}
use Rattle.edge_uses.proofs.RowFacts.{edges_known, starts_known, points_known, faces_known}
use Rattle.edge_uses.proofs.Whole.{vertices_known}
use Rattle.cert_state.proofs.PointOrder.{faces_of_rows}
use Rattle.cert_state.proofs.Segment.{AreGoodRows}
use Rattle.open_certificate.specs.Sound.{IsOnce, IsFanned, IsSoundShell}
use Rattle.open_certificate.specs.Progress.{shell_of}
use Rattle.open_certificate.specs.Legal.{IsOpenLegal}
use Rattle.open_certificate.specs.Obligations.{AllHold, open_shell_obligations, open_obligations, of_shells}
use Rattle.open_certificate.specs.Legal.{AllJoin}
use Rattle.open_certificate.specs.Laws.{AcceptedIsSound}
use Rattle.open_certificate.proofs.Facts.{AreProper, legal_is_proper}
use Rattle.open_certificate.proofs.OpenLists.{hold_append, hold_left, hold_from_sound, sound_from_hold}

-- the rows of the one shell
pub rows_are : (s : SolidData) (shell : Shell) → s.shells ≡ shell ∷ [] → shell_of s ≡ shell_rows s shell
rows_are s shell alone = ap (λ (hs : List Shell). rows_of s (slice_get hs 0)) alone

pub shell_joins : (s : SolidData) (shell : Shell) → s.shells ≡ shell ∷ [] → AllJoin s
    → AllByRecursion (λ (p : PlacedLoop). IsJoined s p.loop) (placed_loops shell)
shell_joins s shell alone joined =
    subst (AllByRecursion (λ (p : PlacedLoop). IsJoined s p.loop)) (append-nil (placed_loops shell))
    (subst (λ hs. AllByRecursion (λ (p : PlacedLoop). IsJoined s p.loop) (flat_map placed_loops hs)) alone joined)

pub joins_shell : (s : SolidData) (shell : Shell) → s.shells ≡ shell ∷ [] → AllByRecursion (λ (p : PlacedLoop). IsJoined s p.loop) (placed_loops shell)
    → AllJoin s
joins_shell s shell alone joined =
    subst (λ hs. AllByRecursion (λ (p : PlacedLoop). IsJoined s p.loop) (flat_map placed_loops hs)) (sym alone)
    (subst (AllByRecursion (λ (p : PlacedLoop). IsJoined s p.loop)) (sym (append-nil (placed_loops shell))) joined)

pub good_shell : (s : SolidData) (shell : Shell) → IsNumberedSolid s → s.shells ≡ shell ∷ [] → AllJoin s → AreGoodRows (shell_of s)
good_shell s shell numbered alone joined =
    let has : Has s.shells shell = subst (λ hs. Has hs shell) (sym alone) (inl refl) in
    let known = vertices_known s shell numbered has in
    subst AreGoodRows (sym (rows_are s shell alone)) (record {
      edges = edges_known s shell;
      starts = starts_known s shell known;
      points = points_known s shell known;
      faces = subst (λ n. AllByRecursion (λ r. r.at.face.0 < n) (shell_rows s shell).rows) (sym (faces_of_rows s shell)) (faces_known s shell);
      meet = ends_meet s shell (shell_joins s shell alone joined);
      exchanged = ends_exchanged s shell;
    })

pub hold_of_shell : (s : SolidData) (shell : Shell) → s.shells ≡ shell ∷ [] → IsSoundShell s shell → AllHold (open_obligations s)
hold_of_shell s shell alone sound =
    subst (λ hs. AllHold (of_shells s hs)) (sym alone) (hold_append (open_shell_obligations s shell) [] (hold_from_sound s shell sound) tt)

pub shell_from_hold : (s : SolidData) (shell : Shell) → s.shells ≡ shell ∷ [] → AllHold (open_obligations s) → IsSoundShell s shell
shell_from_hold s shell alone all = sound_from_hold s shell (hold_left (open_shell_obligations s shell) [] (subst (λ hs. AllHold (of_shells s hs)) alone all))

pub legal_is_sound : (s : SolidData) (shell : Shell) (lines : List (List ℕ)) → IsNumberedSolid s → s.shells ≡ shell ∷ [] → AllJoin s → IsOpenLegal s lines
    → IsSoundShell s shell
unfolding IsOpenLegal
legal_is_sound s shell lines numbered alone joined legal =
    let proper : AreProper (shell_rows s shell) =
    subst AreProper (rows_are s shell alone) (legal_is_proper s (good_shell s shell numbered alone joined) lines legal) in
    record {
      joined = shell_joins s shell alone joined;
      once = All-from (IsOnce (shell_rows s shell)) (shell_rows s shell).edges proper.once;
      reached = All-from (IsReached (shell_rows s shell)) (numbers_from 0 (length shell.faces))
          (λ f m. proper.reached f (subst (λ n. f < n) (sym (faces_of_rows s shell)) (let b = number_below 0 (length shell.faces) f m in omega (arith, b.1))));
      fanned = All-from (IsFanned (shell_rows s shell)) (shell_rows s shell).vertices proper.fanned;
    }

-- What has an accepted certificate is sound.
pub accepted_is_sound : AcceptedIsSound
accepted_is_sound s certificate numbered open_shell a =
    hold_of_shell s open_shell.shell open_shell.alone (legal_is_sound s open_shell.shell a.rest numbered open_shell.alone a.joined a.legal)
