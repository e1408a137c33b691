-- A text that begins with a line.
use Rattle.std.specs.Prelude.{◌≡◌, ℕ, List, [], ◌∷◌, ◌++◌, decimal}
use Rattle.std.proofs.Common.{sym, ◌∙◌, ap, append_assoc}
use Rattle.cert_text.specs.Text.{Begins, spaced}
use Rattle.cert_lines.specs.Line.{edge, reach}
use Rattle.cert_lines.specs.Cutting.{BeginsLine}

-- a number, and what follows it
number_then : (text rest more after : List ℕ) (n : ℕ) → Begins text n rest → rest ≡ more ++ after → text ≡ (32 ∷ decimal n ++ more) ++ after
number_then text rest more after n b e =
    b.text_is ∙ (ap (λ (x : List ℕ). 32 ∷ decimal n ++ x) e ∙ ap (λ (x : List ℕ). 32 ∷ x) (sym (append_assoc (decimal n) more after)))

spaced_end : (ns : List ℕ) (n : ℕ) → 32 ∷ decimal n ++ (spaced ns ++ 10 ∷ []) ≡ spaced (n ∷ ns) ++ 10 ∷ []
spaced_end ns n = ap (λ (x : List ℕ). 32 ∷ x) (sym (append_assoc (decimal n) (spaced ns) (10 ∷ [])))

one_then : (text rest after : List ℕ) (n : ℕ) → Begins text n rest → rest ≡ 10 ∷ after → text ≡ (spaced (n ∷ []) ++ 10 ∷ []) ++ after
one_then text rest after n b e = number_then text rest (10 ∷ []) after n b e ∙ ap (λ (x : List ℕ). x ++ after) (spaced_end [] n)

pub reach_leads : (text numbers rest after : List ℕ) (n : ℕ) → text ≡ 82 ∷ numbers → Begins numbers n rest → rest ≡ 10 ∷ after
    → BeginsLine text (reach n) after
reach_leads text numbers rest after n letter b e =
    record { spelled = b.short; whole = letter ∙ ap (λ (x : List ℕ). 82 ∷ x) (one_then numbers rest after n b e) }

pub edge_leads : (text numbers rest last after : List ℕ) (a b : ℕ) → text ≡ 69 ∷ numbers → Begins numbers a rest → Begins rest b last → last ≡ 10 ∷ after
    → BeginsLine text (edge a b) after
edge_leads text numbers rest last after a b letter first second e = record {
  spelled = (first.short, second.short);
  whole =
      letter
      ∙ ap (λ (x : List ℕ). 69 ∷ x)
      (number_then numbers rest (spaced (b ∷ []) ++ 10 ∷ []) after a first (one_then rest last after b second e)
      ∙ ap (λ (x : List ℕ). x ++ after) (spaced_end (b ∷ []) a));
}
