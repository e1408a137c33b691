-- The numbers behind a word.
use Rattle.std.specs.Prelude.{◌≡◌, ℕ, List, [], ◌∷◌, ◌++◌, length}
use Rattle.std.proofs.Common.{sym, ◌∙◌, ap, arith}
use Rattle.cert_text.specs.Text.{spaced, IsSpaced}
use Rattle.cert_text.proofs.Spacing.{same_front}
use Rattle.open_certificate.specs.Parsed.{HasRowsAfter}

rest_is : (text word rest rs : List ℕ) → text ≡ word ++ rest → HasRowsAfter text word rs → rest ≡ spaced rs
rest_is text word rest rs e h = same_front word rest (spaced rs) (sym e ∙ h.text_is)

pub no_rows : (text word rest rs : List ℕ) → text ≡ word ++ rest → length rest ≡ 0 → HasRowsAfter text word rs → ⊥
no_rows text word rest [] e none h = omega (arith, h.some)
no_rows text word rest (r ∷ rs) e none h = omega (arith, none, ap (λ xs. length xs) (rest_is text word rest (r ∷ rs) e h))

pub rows_spaced : (text word rest rs : List ℕ) → text ≡ word ++ rest → HasRowsAfter text word rs → IsSpaced rest
rows_spaced text word rest rs e h = (rs, record { short = h.short; text_is = rest_is text word rest rs e h })

pub rows_read : (text word rest : List ℕ) → text ≡ word ++ rest → (length rest ≡ 0 → ⊥) → IsSpaced rest
    → (rs : List ℕ) × (rest ≡ spaced rs) × HasRowsAfter text word rs
rows_read text word rest e some ([], a) = absurd (some (ap (λ xs. length xs) a.text_is))
rows_read text word rest e some (r ∷ rs, a) = (r ∷ rs, a.text_is, record { short = a.short; some = omega arith; text_is = e ∙ ap (λ xs. word ++ xs) a.text_is })
