-- A line at the start of a text that is taken.
use Rattle.std.specs.Prelude.{◌≡◌, ◌≢◌, ℕ, ◌+◌, ◌==◌, false, true, not, List, [], ◌∷◌, ◌++◌, Some}
use Rattle.std.specs.List.{AllByRecursion}
use Rattle.std.proofs.Common.{refl, ◌∙◌, ap, subst, append_assoc}
use Rattle.std.proofs.lemmas.Bool.{and_from, not_from_false, ne_eqb}
use Rattle.iges_base.specs.InLine.{is_in_line}
use Rattle.cert_lines.specs.Line.{CertLine, HasSpelling, IsLine, words, spelling, line_limit}
use Rattle.cert_lines.specs.Cutting.{EndsFirst}
use Rattle.cert_lines.proofs.LineKinds.{words_no_break}
use Rattle.cert_state.specs.CheckState.{ShellCheckState}
use Rattle.cert_state.specs.Matching.{TakesNext}
use Rattle.topo_certificate.specs.Matching.{CheckerState}
use Rattle.topo_certificate.specs.Part.{TakesNextLine}
use Rattle.topo_certificate.proofs.Checking.{with_current, row_line_taken}

no_break_in_line : (xs : List ℕ) → AllByRecursion (λ b. b ≢ 10) xs → is_in_line xs ≡ true
no_break_in_line [] h = refl
no_break_in_line (b ∷ bs) h = and_from (not (b == 10)) (is_in_line bs) (not_from_false (b == 10) (ne_eqb b 10 h.0)) (no_break_in_line bs h.1)

spelled_first : (text bytes after : List ℕ) (l : CertLine) → HasSpelling l → bytes ≡ spelling l → text ≡ bytes ++ after → EndsFirst text bytes after
spelled_first text bytes after l h is e = record {
  front = words l;
  in_line = no_break_in_line (words l) (words_no_break l h);
  line_is = is;
  whole = e ∙ (ap (λ (x : List ℕ). x ++ after) is ∙ append_assoc (words l) (10 ∷ []) after);
}

pub next_taken : (old : CheckerState) (k new : ShellCheckState) (limit n : ℕ) (text after : List ℕ) → old.ended ≡ false → old.current ≡ Some k
    → limit ≡ line_limit old.solid → n ≡ old.number + 1 → TakesNext k new limit text after → TakesNextLine old (with_current old new n) text after
next_taken old k new limit n text after going is_k is_limit more t = record {
  line = t.bytes;
  cut = spelled_first text t.bytes after t.line t.is.1.0 t.is.1.1 t.whole;
  taken = λ first lines at.
      let r = row_line_taken old k new t.line n going is_k t.kind t.takes more first lines at in
      (t.line, subst (λ m. IsLine m t.bytes t.line) is_limit t.is, r.0, r.1);
}
