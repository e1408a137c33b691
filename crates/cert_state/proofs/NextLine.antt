-- A line at the start of a text that is taken.
use Rattle.std.specs.Prelude.{◌≡◌, ℕ, ◌-◌, ◌<◌, ◌≤◌, true, List, [], ◌∷◌, ◌++◌, length}
use Rattle.std.proofs.Common.{sym, refl, ◌∙◌, ap, arith, append_assoc, length-append}
use Rattle.cert_text.specs.Text.{spaced}
use Rattle.cert_lines.specs.Line.{CertLine, corner, spelling}
use Rattle.cert_lines.specs.Cutting.{BeginsLine}
use Rattle.cert_lines.specs.Parsed.{IsRowLine}
use Rattle.cert_state.specs.CheckState.{ShellCheckState}
use Rattle.cert_state.specs.Matching.{Takes, TakesNext}
use Rattle.cert_state.specs.Ring.{BeginsWithNumbers}

pub after_within : (text after : List ℕ) (line : CertLine) → BeginsLine text line after → length after ≤ length text
after_within text after line b = omega (arith, ap length b.whole, length-append (spelling line) after)

pub takes_next : (old new : ShellCheckState) (limit : ℕ) (text after : List ℕ) (line : CertLine) → IsRowLine line → BeginsLine text line after
    → length text - length after ≤ limit → Takes old new line true → TakesNext old new limit text after
takes_next old new limit text after line kind b short takes = record {
  line = line;
  kind = kind;
  bytes = spelling line;
  is = (omega (arith, short, ap length b.whole, length-append (spelling line) after), (b.spelled, refl));
  whole = b.whole;
  takes = takes;
}

-- a corner line is its letter, its numbers and LF
pub corner_leads : (text numbers rest after rs : List ℕ) → text ≡ 67 ∷ numbers → BeginsWithNumbers numbers rs rest → 0 < length rs → rest ≡ 10 ∷ after
    → BeginsLine text (corner rs) after
corner_leads text numbers rest after rs letter n some e = record {
  spelled = (n.short, some);
  whole = letter
      ∙ ap (λ (x : List ℕ). 67 ∷ x)
      (n.text_is ∙ (ap (λ (x : List ℕ). spaced rs ++ x) e ∙ sym (append_assoc (spaced rs) (10 ∷ []) after)));
}
