-- The first line of a text, and the lines of what follows it.
use Rattle.std.specs.Prelude.{◌≡◌, ◌≢◌, ℕ, zero, suc, ◌+◌, ◌<◌, ◌==◌, Bool, true, false, List, [], ◌∷◌, length, take, drop, if◌then◌else◌}
use Rattle.std.proofs.Common.{refl, sym, ◌∙◌, ap, arith, get_or}
use Rattle.std.proofs.lemmas.Bool.{eq-eqb, eqb-true}
use Rattle.cert_lines.specs.Line.{cut_lines, put_before}

differ : (b : ℕ) → b ≢ 10 → (b == 10) ≡ false
differ b ne = by_test (b == 10) refl
  where
    by_test : (t : Bool) → (b == 10) ≡ t → t ≡ false
    by_test true e = absurd (ne (eqb-true b 10 e))
    by_test false e = refl

cut_here : (b : ℕ) (bs : List ℕ) → b ≡ 10 → cut_lines (b ∷ bs) ≡ (b ∷ []) ∷ cut_lines bs
cut_here b bs e = ap (λ t. if t then (b ∷ []) ∷ cut_lines bs else put_before b (cut_lines bs)) (eq-eqb b 10 e)

cut_later : (b : ℕ) (bs : List ℕ) → b ≢ 10 → cut_lines (b ∷ bs) ≡ put_before b (cut_lines bs)
cut_later b bs ne = ap (λ t. if t then (b ∷ []) ∷ cut_lines bs else put_before b (cut_lines bs)) (differ b ne)

-- a text is cut behind its first LF
pub cut_at : (text : List ℕ) (n : ℕ) → n < length text → get_or text n 0 ≡ 10 → ((k : ℕ) → k < n → get_or text k 0 ≢ 10) →
    cut_lines text ≡ take (n + 1) text ∷ cut_lines (drop (n + 1) text)
cut_at [] n lt e before = absurd (omega (arith, lt))
cut_at (b ∷ bs) zero lt e before = cut_here b bs e
cut_at (b ∷ bs) (suc n) lt e before =
    let rest = cut_at bs n (omega (arith, lt)) e (λ k l. before (suc k) (omega (arith, l))) in
    let more : suc n + 1 ≡ suc (n + 1) = omega arith in
    cut_later b bs (before 0 (omega arith))
    ∙ (ap (put_before b) rest ∙ ap (λ m. take m (b ∷ bs) ∷ cut_lines (drop m (b ∷ bs))) (sym more))

-- a text without LF is one line
pub cut_whole : (text : List ℕ) → 0 < length text → ((k : ℕ) → k < length text → get_or text k 0 ≢ 10) →
    cut_lines text ≡ take (length text) text ∷ cut_lines (drop (length text) text)
cut_whole [] some never = absurd (omega (arith, some))
cut_whole (b ∷ []) some never = cut_later b [] (never 0 (omega arith))
cut_whole (b ∷ c ∷ bs) some never =
    let rest = cut_whole (c ∷ bs) (omega arith) (λ k l. never (suc k) (omega (arith, l))) in
    cut_later b (c ∷ bs) (never 0 (omega arith)) ∙ ap (put_before b) rest
