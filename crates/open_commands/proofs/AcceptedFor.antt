-- A certificate is accepted for a shell of a file where its places hold and it is accepted for the solid that is this shell.
use Rattle.std.specs.Prelude.{◌≡◌, ◌<◌, ℕ, true, false, List, [], ◌∷◌}
use Rattle.std.proofs.Common.{refl, ap, subst, arith}
use Rattle.iges_params.specs.Contents.{Contents}
use Rattle.brep_walk.specs.OpenPlaces.{open_places, shell_solid_of}
use Rattle.brep_walk.proofs.ShellSolids.{shell_is_numbered}
use Rattle.solid_data.specs.Obligations.{AllHold}
use Rattle.solid_data.specs.SolidData.{SolidData}
use Rattle.open_certificate.specs.Legal.{IsOpenAccepted}
use Rattle.open_certificate.specs.Legal.{IsOpenLegal}
use Rattle.open_certificate.specs.Line.{OpenLine, head, shell, edge, lone, cycle, path, point, reach, border, end}
use Rattle.open_certificate.specs.Line.{NamesShell, IsOf}
use Rattle.open_certificate.specs.Progress.{progress_from_latest, FitsOpen}
use Rattle.open_certificate.proofs.Borders as of_solids
use Rattle.open_shells.proofs.Complete.{sound_exactly as sound_exactly_of_solids}
use Rattle.open_certificate.proofs.Sound.{accepted_is_sound}
use Rattle.open_commands.specs.Verdict.{IsOpenAcceptedFor}
use Rattle.open_commands.specs.Laws.{SoundExactlyWhereAccepted, BordersAreCycles, AcceptedIsChecked}
use Rattle.open_commands.proofs.Joining.{checked_parts, parts_checked}
use Rattle.open_commands.proofs.Shells.{open_shell, entity_is}

none_due : 0 < 0 → ⊥
none_due h = omega (arith, h)

-- The only line that fits first is a SHELL line of the solid's number.
first_names : (s : SolidData) (l : OpenLine) → FitsOpen s (progress_from_latest s []) l → NamesShell s.entity.0 l
unfolding progress_from_latest
first_names s head h = absurd h
first_names s (shell n rows edges corners faces borders) h =
    (rows, edges, corners, faces, borders, ap (λ m. shell m rows edges corners faces borders) h.1.names)
first_names s (edge a b) h = absurd (none_due h.0)
first_names s (lone a) h = absurd (none_due h.0)
first_names s (cycle []) h = absurd h
first_names s (cycle (r ∷ rs)) h = absurd (none_due h.0.1)
first_names s (path []) h = absurd h
first_names s (path (r ∷ rs)) h = absurd (none_due h.0.1)
first_names s (point face l) h = absurd (none_due h.0.1)
first_names s (reach r) h = absurd (none_due h.0.2)
first_names s (border []) h = absurd h
first_names s (border (r ∷ rs)) h = absurd (none_due h.0.3)
first_names s end h = absurd (let e : false ≡ true = h.begun in cc)

unended : (s : SolidData) → (progress_from_latest s []).ended ≡ true → ⊥
unfolding progress_from_latest
unended s h = absurd (let e : false ≡ true = h in cc)

legal_names : (s : SolidData) (lines : List (List ℕ)) → IsOpenLegal s lines → (second : List ℕ) × (rest : List (List ℕ)) × (lines ≡ second ∷ rest)
    × IsOf (NamesShell s.entity.0) second
unfolding IsOpenLegal
legal_names s [] legal = absurd (unended s legal)
legal_names s (second ∷ rest) (l, is, fits, more) = (second, rest, refl, (l, is, first_names s l fits.1))

module _ (f : Contents) (n : ℕ) (certificate : List ℕ) where
  pub accepted_for : AllHold (open_places f n) → IsOpenAccepted (shell_solid_of f n) certificate → IsOpenAcceptedFor f certificate n
  accepted_for placed a =
      let named = legal_names (shell_solid_of f n) a.rest a.legal in
      record {
        lines = a.rest;
        opens = record {
          first = a.first;
          second = named.0;
          rest = named.1;
          cut = a.cut;
          behind = named.2;
          is_head = a.is_head;
          names =
              subst (λ k. IsOf (NamesShell k) named.0) (entity_is f n) named.3;
        };
        placed = placed;
        joined = a.joined;
        legal = a.legal;
      }

  accepted_of : IsOpenAcceptedFor f certificate n → IsOpenAccepted (shell_solid_of f n) certificate
  accepted_of a = record { first = a.opens.first; rest = a.lines; cut = a.opens.cut; is_head = a.opens.is_head; joined = a.joined; legal = a.legal }

pub sound_exactly : SoundExactlyWhereAccepted
sound_exactly f n limits = (
  λ (placed, rules). let c = (sound_exactly_of_solids (shell_solid_of f n) (shell_is_numbered f n limits placed) (open_shell f n)).0 rules
      in (c.0, accepted_for f n c.0 placed c.1),
  λ (c, a). (a.placed, accepted_is_sound (shell_solid_of f n) c (shell_is_numbered f n limits a.placed) (open_shell f n) (accepted_of f n c a)),
)

pub borders_are_cycles : BordersAreCycles
borders_are_cycles f n certificate lines limits a spelled =
    of_solids.borders_are_cycles (shell_solid_of f n) a.lines lines (shell_is_numbered f n limits a.placed) (open_shell f n) a.joined a.legal spelled

pub accepted_is_checked : AcceptedIsChecked
accepted_is_checked f certificate n = (
  λ a. (a.lines, a.opens, parts_checked f n a.placed a.joined, a.legal),
  λ (lines, opens, all, legal). let parts = checked_parts f n all in record { lines = lines; opens = opens; placed = parts.0; joined = parts.1; legal = legal },
)
