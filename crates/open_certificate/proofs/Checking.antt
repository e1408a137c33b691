-- Where a checker stands behind one more line.
use Rattle.std.specs.Prelude.{◌≡◌, ℕ, ◌+◌, ◌<◌, true, false, List, [], ◌∷◌, length, None}
use Rattle.std.proofs.Common.{refl, sym, ◌∙◌, ap, arith}
use Rattle.open_certificate.specs.Line.{OpenLine, head, shell, edge, lone, cycle, path, point, reach, border, end}
use Rattle.open_certificate.specs.Parsed.{IsRowLine}
use Rattle.solid_data.specs.SolidData.{SolidData}
use Rattle.solid_data.specs.declared.solid.Shell.{Shell}
use Rattle.open_certificate.specs.Legal.{IsOpenShell}
use Rattle.open_certificate.specs.Progress.{progress_from_latest, IsDone}
use Rattle.open_certificate.specs.CheckState.{OpenCheckState, MatchesLines, Takes, OpenCheckerState, IsAt, TakesLine}

-- each line but END leaves it open whether END came
abbrev pub IsOngoing : OpenLine → Type 0
IsOngoing end = ⊥
IsOngoing _ = Unit {0}

pub row_goes_on : (line : OpenLine) → IsRowLine line → IsOngoing line
row_goes_on head h = tt
row_goes_on (shell n a b c d e) h = tt
row_goes_on (edge a b) h = tt
row_goes_on (lone a) h = tt
row_goes_on (cycle rs) h = tt
row_goes_on (path rs) h = tt
row_goes_on (point a b) h = tt
row_goes_on (reach a) h = tt
row_goes_on (border rs) h = tt
row_goes_on end h = h

next_number : (s : SolidData) (lines : List OpenLine) (line : OpenLine)
    → (progress_from_latest s (line ∷ lines)).number ≡ (progress_from_latest s lines).number + 1
unfolding progress_from_latest
next_number s lines line = omega arith

still_open : (s : SolidData) (lines : List OpenLine) (line : OpenLine) → IsOngoing line → (progress_from_latest s (line ∷ lines)).ended
    ≡ (progress_from_latest s lines).ended
unfolding progress_from_latest
still_open s lines head h = refl
still_open s lines (shell n a b c d e) h = refl
still_open s lines (edge a b) h = refl
still_open s lines (lone a) h = refl
still_open s lines (cycle rs) h = refl
still_open s lines (path rs) h = refl
still_open s lines (point a b) h = refl
still_open s lines (reach a) h = refl
still_open s lines (border rs) h = refl
still_open s lines end h = absurd h

abbrev pub with_line : OpenCheckerState → OpenCheckState → ℕ → OpenCheckerState
with_line old k n = record old { number = n; shell = k }

pub line_taken : (old : OpenCheckerState) (new : OpenCheckState) (line : OpenLine) (n : ℕ) → old.ended ≡ false → IsOngoing line → Takes old.shell new line true
    → n ≡ old.number + 1 → TakesLine old (with_line old new n) line true
line_taken old new line n going kind takes more lines at =
    let s : SolidData = old.solid in
    let r = takes s lines at.shell in (
      (sym at.ended ∙ going, r.0),
      record {
        legal = at.legal;
        number = omega (arith, more, at.number, next_number s lines line);
        ended = at.ended ∙ sym (still_open s lines line kind);
        shell = r.1;
      },
    )

pub line_refused : (old new : OpenCheckerState) (now : OpenCheckState) (line : OpenLine) → Takes old.shell now line false → TakesLine old new line false
line_refused old new now line takes lines at fits = takes old.solid lines at.shell fits.1

end_told : (s : SolidData) (lines : List OpenLine) (k : OpenCheckState) → MatchesLines s lines k → k.begun ≡ true → MatchesLines s (end ∷ lines) k
unfolding progress_from_latest
end_told s lines k t begun = record {
  entity = t.entity;
  rows = t.rows;
  first = λ e. absurd (let h : true ≡ false = sym begun ∙ e in cc);
  begun = t.begun;
  mates = t.mates;
  lone = t.lone;
  lone_count = t.lone_count;
  reached = t.reached;
  edges_due = t.edges_due;
  corners_due = t.corners_due;
  reach_due = t.reach_due;
  borders_due = t.borders_due;
  listed = t.listed;
  bordered = t.bordered;
  last_edge = t.last_edge;
  last_vertex = t.last_vertex;
  last_border = t.last_border;
}

now_ended : (s : SolidData) (lines : List OpenLine) → (progress_from_latest s (end ∷ lines)).ended ≡ true
unfolding progress_from_latest
now_ended s lines = refl

abbrev pub with_end : OpenCheckerState → ℕ → OpenCheckerState
with_end old n = record old { number = n; ended = true }

pub end_comes : (old : OpenCheckerState) (n : ℕ) → old.ended ≡ false
    → ((s : SolidData) (lines : List OpenLine) → MatchesLines s lines old.shell → IsDone (progress_from_latest s lines)) → n ≡ old.number + 1
    → TakesLine old (with_end old n) end true
end_comes old n going done more lines at =
    let s : SolidData = old.solid in
    let d = done s lines at.shell in (
      (sym at.ended ∙ going, d),
      record {
        legal = at.legal;
        number = omega (arith, more, at.number, next_number s lines end);
        ended = sym (now_ended s lines);
        shell = end_told s lines old.shell at.shell (at.shell.begun ∙ d.begun);
      },
    )

pub end_refused : (old new : OpenCheckerState) → ((s : SolidData) (lines : List OpenLine) → MatchesLines s lines old.shell
    → IsDone (progress_from_latest s lines) → ⊥)
    → TakesLine old new end false
end_refused old new never lines at fits = never old.solid lines at.shell fits.1

first_number : (s : SolidData) → (progress_from_latest s []).number ≡ 2
unfolding progress_from_latest
first_number s = omega arith

first_open : (s : SolidData) → (progress_from_latest s []).ended ≡ false
unfolding progress_from_latest
first_open s = refl

pub begins : (c : OpenCheckerState) → c.failed ≡ None → c.number ≡ 2 → c.ended ≡ false → MatchesLines c.solid [] c.shell → IsAt c []
begins c legal number ended tells =
    record { legal = legal; number = number ∙ sym (first_number c.solid); ended = ended ∙ sym (first_open c.solid); shell = tells }

-- an open shell's solid has its first shell
pub one_shell : (s : SolidData) → IsOpenShell s → 0 < length s.shells
one_shell s open_shell = omega (arith, ap (λ (hs : List Shell). length hs) open_shell.alone)
