-- The lines that are left, one by one.
use Rattle.std.specs.Prelude.{◌≡◌, ◌<◌, ◌≤◌, ◌-◌, ℕ, zero, suc, List, ◌++◌, take}
use Rattle.std.proofs.Common.{arith, ap, ◌∙◌, append_assoc, subst, sym}
use Rattle.std.proofs.lemmas.List.{append-nil}
use Rattle.where_places.specs.FileLine.{from_line, line_of}
use Rattle.value_lines.specs.RecordText.{text_columns}

pub columns_more : (n : ℕ) (old new rest after all : List ℕ) → 0 < n → new ≡ old ++ take 64 (line_of rest) → after ≡ from_line 1 rest
    → old ++ text_columns n rest ≡ all → new ++ text_columns (n - 1) after ≡ all
unfolding text_columns
columns_more zero old new rest after all some put is so = let no : ⊥ = omega (arith, some) in absurd no
columns_more (suc n) old new rest after all some put is so =
    let less : n ≡ suc n - 1 = omega arith in
    subst (λ m. new ++ text_columns m after ≡ all) less
    (ap (λ (ys : List ℕ). ys ++ text_columns n after) put ∙ ap (λ (ys : List ℕ). (old ++ take 64 (line_of rest)) ++ text_columns n ys) is
    ∙ append_assoc old (take 64 (line_of rest)) (text_columns n (from_line 1 rest)) ∙ so)

pub columns_last : (n : ℕ) (old rest all : List ℕ) → n ≤ 0 → old ++ text_columns n rest ≡ all → old ≡ all
unfolding text_columns
columns_last zero old rest all few so = sym (append-nil old) ∙ so
columns_last (suc n) old rest all few so = let no : ⊥ = omega (arith, few) in absurd no
