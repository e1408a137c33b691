-- Legal lines show of each shell that its edges are paired, its faces reached and its vertices linked.
use Rattle.std.specs.Prelude.{◌≡◌, ℕ, suc, ◌-◌, Bool, ◌<◌, ◌≤◌, ◌⊎◌, true, false, List, [], ◌∷◌, length, filter_map}
use Rattle.std.proofs.Common.{refl, sym, ◌∙◌, ap, subst, arith, inl, inr}
use Rattle.std.proofs.lemmas.Bool.{cases_lt}
use Rattle.solid_data.specs.SolidData.{SolidData}
use Rattle.edge_uses.specs.ShellRows.{ShellRows}
use Rattle.edge_uses.specs.RowRelations.{IsPaired}
use Rattle.edge_uses.specs.Around.{IsReached, IsLinked}
use Rattle.solid_data.proofs.Members.{Has}
use Rattle.cert_lines.specs.Line.{CertLine, shell, end}
use Rattle.cert_lines.specs.declared.version.Version.{Version}
use Rattle.cert_state.specs.Progress.{progress_from_latest, FitsLine, NoneDue, vertex_of, face_of, is_shell, is_corner_or_point, is_reach, number_of}
use Rattle.cert_state.specs.Progress.{since_shell, rows_of_shell, current_rows, is_last}
use Rattle.cert_state.specs.declared.due.Due.{Due}
use Rattle.topo_certificate.specs.After.{IsLegalAfter}
use Rattle.cert_state.proofs.Segment.{vertices_linked, faces_reached}
use Rattle.std.specs.List.{list_any}
use Rattle.topo_certificate.proofs.Facts.{AllFit, Facts, Good, facts_paired}
use Rattle.topo_certificate.proofs.LineKinds.{facts_of, number_more, number_same, shell_line, end_line, first_true}

-- what is shown of the rows of a shell
pub record AreProper (d : ShellRows) : Type 0 where
  pub paired : (e : ℕ) → Has d.edges e → IsPaired d e
  pub reached : (f : ℕ) → f < d.face_count → IsReached d f
  pub linked : (v : ℕ) → Has d.vertices v → IsLinked d v

proper_from_facts : (version : Version) (s : SolidData) (lines : List CertLine) (d : ShellRows) → Facts version s lines d
    → NoneDue (progress_from_latest version s lines).due → AreProper d
unfolding progress_from_latest
proper_from_facts version s lines d facts none =
    let vertices : length d.vertices - number_of is_corner_or_point (since_shell lines) ≡ 0 =
    sym (ap (λ (a : Due). a.corners - number_of is_corner_or_point (since_shell lines)) facts.asks) ∙ none.corners in
    let faces : d.face_count - 1 - number_of is_reach (since_shell lines) ≡ 0 =
    sym (ap (λ (a : Due). a.reach - number_of is_reach (since_shell lines)) facts.asks) ∙ none.reach in
    record {
      paired = facts_paired version s lines d facts none.edges;
      reached = faces_reached d (filter_map (face_of d) (since_shell lines)) (number_of is_reach (since_shell lines)) facts.reach_facts (omega (arith, faces));
      linked = vertices_linked d (filter_map (vertex_of d) (since_shell lines)) (number_of is_corner_or_point (since_shell lines)) facts.corner_facts
          (omega (arith, vertices));
    }

false_is_not_true : false ≡ true → ⊥
false_is_not_true h = cc

none_ended : (version : Version) (s : SolidData) → (progress_from_latest version s []).ended ≡ true → false ≡ true
unfolding progress_from_latest
none_ended version s h = h

-- a shell before the one at hand was begun before the line, and is done where the line begins another
earlier : (version : Version) (s : SolidData) (P : Type 0) (l : CertLine) (lines : List CertLine) → FitsLine s (progress_from_latest version s lines) l → (j : ℕ)
    → suc j < number_of is_shell (l ∷ lines)
    → (j < number_of is_shell lines → (suc j ≡ number_of is_shell lines → NoneDue (progress_from_latest version s lines).due) → P) → P
earlier version s P l lines fit j less before = by_test (is_shell l) refl
  where
    by_test : (b : Bool) → is_shell l ≡ b → P
    by_test true e =
        let begun = shell_line l e in
        let fits : FitsLine s (progress_from_latest version s lines) (shell begun.0 begun.1) = subst (FitsLine s (progress_from_latest version s lines)) begun.2 fit
        in
        let below : suc j < suc (number_of is_shell lines) = subst (λ n. suc j < n) (number_more is_shell l lines e) less in
        before (omega (arith, below)) (λ x. fits.1.0)
    by_test false e =
        let below : suc j < number_of is_shell lines = subst (λ n. suc j < n) (number_same is_shell l lines e) less in
        before (omega (arith, below)) (λ x. absurd (omega (arith, below, x)))

-- Each shell that is begun, and the last only where nothing is due of it any more.
pub proper_upto : (version : Version) (s : SolidData) → Good s → (lines : List CertLine) → AllFit version s lines → (j : ℕ) → j < number_of is_shell lines
    → (suc j ≡ number_of is_shell lines → NoneDue (progress_from_latest version s lines).due) → AreProper (rows_of_shell s (suc j))
proper_upto version s good [] fit j lt due = absurd (omega (arith, lt))
proper_upto version s good (l ∷ lines) fit j lt due = by_place (cases_lt (suc j) (number_of is_shell (l ∷ lines))) (proper_upto version s good lines fit.1 j)
  where
    here : suc j ≡ number_of is_shell (l ∷ lines) → AreProper (rows_of_shell s (suc j))
    here same = subst (λ k. AreProper (rows_of_shell s k)) (sym same)
        (proper_from_facts version s (l ∷ lines) (current_rows s (l ∷ lines)) (facts_of version s good (l ∷ lines) j (sym same) fit) (due same))

    by_place : (suc j < number_of is_shell (l ∷ lines)) ⊎ (number_of is_shell (l ∷ lines) ≤ suc j)
        → (j < number_of is_shell lines → (suc j ≡ number_of is_shell lines → NoneDue (progress_from_latest version s lines).due)
        → AreProper (rows_of_shell s (suc j))) → AreProper (rows_of_shell s (suc j))
    by_place (inr most) before = here (omega (arith, most, lt))
    by_place (inl less) before = earlier version s (AreProper (rows_of_shell s (suc j))) l lines fit.0 j less before

-- legal lines are lines that each fit, with END as the last
legal_fit : (version : Version) (s : SolidData) (before : List CertLine) (lines : List (List ℕ)) → AllFit version s before
    → IsLegalAfter version s before lines → (all : List CertLine) × AllFit version s all × ((progress_from_latest version s all).ended ≡ true)
legal_fit version s before [] fit legal = (before, fit, legal)
legal_fit version s before (bytes ∷ rest) fit (line, is_line, fits, more) = legal_fit version s (line ∷ before) rest (fits, fit) more

-- END is the last, with nothing due and no shell left
pub last_is_end : (version : Version) (s : SolidData) (l : CertLine) (lines : List CertLine) → FitsLine s (progress_from_latest version s lines) l
    → (progress_from_latest version s (l ∷ lines)).ended ≡ true → NoneDue (progress_from_latest version s lines).due × (number_of is_shell lines ≡ length s.shells)
unfolding progress_from_latest
last_is_end version s l lines fit ended =
    let fits : FitsLine s (progress_from_latest version s lines) end =
    subst (FitsLine s (progress_from_latest version s lines)) (end_line l (first_true (is_last l) (list_any is_last lines) fit.0 ended)) fit in
    (fits.1.0, fits.1.1)

-- Legal lines show that the rows of each shell are proper.
pub legal_is_proper : (version : Version) (s : SolidData) → Good s → (lines : List (List ℕ)) → IsLegalAfter version s [] lines → (j : ℕ) → j < length s.shells
    → AreProper (rows_of_shell s (suc j))
legal_is_proper version s good lines legal j lt = of_all (legal_fit version s [] lines tt legal)
  where
    of_lines : (all : List CertLine) → AllFit version s all → (progress_from_latest version s all).ended ≡ true → AreProper (rows_of_shell s (suc j))
    of_lines [] fit ended = absurd (false_is_not_true (none_ended version s ended))
    of_lines (l ∷ ls) fit ended =
        let last = last_is_end version s l ls fit.0 ended in
        proper_upto version s good ls fit.1 j (omega (arith, lt, last.1)) (λ e. last.0)

    of_all : ((all : List CertLine) × AllFit version s all × ((progress_from_latest version s all).ended ≡ true)) → AreProper (rows_of_shell s (suc j))
    of_all a = of_lines a.0 a.1 a.2
