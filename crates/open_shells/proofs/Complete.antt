-- A sound open shell has an accepted certificate.
use Rattle.std.specs.Prelude.{◌≡◌, ℕ, List, [], ◌∷◌, length}
use Rattle.std.specs.List.{AllByRecursion}
use Rattle.std.proofs.Common.{refl, sym, subst, inl}
use Rattle.solid_data.specs.Ring.{numbers_from}
use Rattle.solid_data.specs.SolidData.{SolidData}
use Rattle.solid_data.specs.Numbering.{IsNumberedSolid}
use Rattle.solid_data.specs.declared.solid.Shell.{Shell}
use Rattle.solid_data.proofs.Members.{Has}
use Rattle.edge_uses.specs.ShellRows.{ShellRows, shell_rows}
use Rattle.edge_uses.specs.Around.{IsReached}
use Rattle.edge_uses.proofs.RowLemmas.{ends_meet}
use Rattle.edge_uses.proofs.Whole.{are_rows}
use Rattle.cert_state.proofs.PointOrder.{faces_of_rows}
use Rattle.open_certificate.specs.Sound.{IsSoundShell}
use Rattle.open_certificate.specs.Progress.{shell_of}
use Rattle.open_certificate.specs.Obligations.{AllHold, open_obligations}
use Rattle.open_certificate.specs.Legal.{IsOpenAccepted}
use Rattle.open_shells.specs.Listed.{AreListedParts}
use Rattle.open_certificate.specs.Laws.{SoundExactlyWhereAccepted}
use Rattle.open_shells.specs.Mating.{AreOnce}
use Rattle.open_certificate.specs.Written.{open_lines, text_of}
use Rattle.open_certificate.specs.declared.parts.OpenCertificate.{OpenCertificate}
use Rattle.open_certificate.proofs.Sound.{rows_are, shell_from_hold, accepted_is_sound}
use Rattle.open_shells.proofs.PartsMade.{edges_made, corners_made, reach_made, borders_made}
use Rattle.open_shells.proofs.Certifying.{certificate_made, certificate_accepted}

once_of : (s : SolidData) (h : Shell) → IsNumberedSolid s → s.shells ≡ h ∷ [] → IsSoundShell s h → AreOnce (shell_rows s h)
once_of s h numbered alone sound = record {
  rows = are_rows s h numbered (subst (λ hs. Has hs h) (sym alone) (inl refl));
  meet = ends_meet s h sound.joined;
  once = sound.once;
}

pub has_certificate : (s : SolidData) (h : Shell) → IsNumberedSolid s → s.shells ≡ h ∷ [] → AllHold (open_obligations s)
    → (certificate : List ℕ) × IsOpenAccepted s certificate
has_certificate s h numbered alone all =
    let sound : IsSoundShell s h = shell_from_hold s h alone all in
    let d : ShellRows = shell_rows s h in
    let back : d ≡ shell_of s = sym (rows_are s h alone) in
    let whole : AreOnce d = once_of s h numbered alone sound in
    let edges = edges_made d d.edges sound.once in
    let corners = corners_made d whole d.vertices sound.fanned in
    let reach = reach_made d whole (subst (λ n. AllByRecursion (IsReached d) (numbers_from 0 n)) (sym (faces_of_rows s h)) sound.reached) in
    let borders = borders_made d whole sound.fanned in
    let parts : AreListedParts d edges.0 corners.0 reach.0 borders.0 =
    record { each_edge = edges.1; each_vertex = corners.1; each_face = reach.1; each_border = borders.1 } in
    let c : OpenCertificate =
    record {
      shell = s.entity;
      rows = length (shell_of s).rows;
      edges = edges.0;
      corners = corners.0;
      faces = (shell_of s).face_count;
      reach =
          reach.0;
      borders = borders.0;
    } in
    let made = certificate_made s h c numbered alone (subst AreOnce back whole) all
    (subst (λ x. AreListedParts x edges.0 corners.0 reach.0 borders.0) back parts) refl refl refl in
    (text_of (open_lines c), certificate_accepted s h c alone all made)

-- A solid that is one open shell is sound exactly where some certificate is accepted for it.
pub sound_exactly : SoundExactlyWhereAccepted
sound_exactly s numbered open_shell =
    ((λ all. has_certificate s open_shell.shell numbered open_shell.alone all), (λ a. accepted_is_sound s a.0 numbered open_shell a.1))
