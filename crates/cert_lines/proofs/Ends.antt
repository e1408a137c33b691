-- A line that an LF ends, and a text that has begun with such lines.
use Rattle.std.specs.Prelude.{◌≡◌, ◌≢◌, ℕ, zero, suc, ◌+◌, ◌-◌, ◌<◌, ◌≤◌, ◌==◌, ◌⊎◌, true, false, not, List, [], ◌∷◌, ◌++◌, length, map, take, drop}
use Rattle.std.specs.Prelude.{slice_index}
use Rattle.std.proofs.Common.{refl, sym, ◌∙◌, ap, subst, arith, inl, inr, length-append}
use Rattle.std.proofs.lemmas.Bool.{cond-false, and_parts, and_from, not-true, not_from_false, ne_eqb, both_ways, cases_order}
use Rattle.std.proofs.lemmas.List.{take_rest, take_all, length-take}
use Rattle.iges_base.specs.InLine.{is_in_line}
use Rattle.iges_base.specs.Ended.{ended, IsBegun}
use Rattle.iges_base.proofs.Ended.{begun_cut}
use Rattle.cert_lines.specs.Line.{CertLine, words, cut_lines, put_before, IsSpelled, EndsWithLf, IsLine, IsLong, IsMisspelt}
use Rattle.cert_lines.specs.Cutting.{IsFirstEnd, EndsFirst}

pub all_in_line : (text : List ℕ) → ((k : ℕ) → k < length text → slice_index text k ≢ 10) → is_in_line text ≡ true
all_in_line [] never = refl
all_in_line (b ∷ bs) never = and_from (not (b == 10)) (is_in_line bs) (not_from_false (b == 10) (ne_eqb b 10 (never 0 (omega arith))))
    (all_in_line bs (λ k lt. never (suc k) (omega (arith, lt))))

ends_at : (text : List ℕ) (n : ℕ) → IsFirstEnd text n → EndsFirst text (take (suc n) text) (drop (suc n) text)
ends_at [] n e = absurd (let w = e.within in omega (arith, w))
ends_at (b ∷ bs) zero e = record { front = []; in_line = refl; line_is = ap (λ (x : ℕ). x ∷ []) e.is_end; whole = ap (λ (x : ℕ). x ∷ bs) e.is_end }
ends_at (b ∷ bs) (suc n) e =
    let w = e.within in
    let more = ends_at bs n (record { within = omega (arith, w); is_end = e.is_end; before = λ k lt. e.before (suc k) (omega (arith, lt)) }) in
    record {
      front = b ∷ more.front;
      in_line = and_from (not (b == 10)) (is_in_line more.front) (not_from_false (b == 10) (ne_eqb b 10 (e.before 0 (omega arith)))) more.in_line;
      line_is = ap (λ (x : List ℕ). b ∷ x) more.line_is;
      whole = ap (λ (x : List ℕ). b ∷ x) more.whole;
    }

pub ends_first : (text : List ℕ) (n m : ℕ) (line after : List ℕ) → IsFirstEnd text n → m ≡ n + 1 → line ≡ take m text →
    after ≡ take (length text - m) (drop m text) → EndsFirst text line after
ends_first text n m line after e m-is line-is after-is =
    let next : m ≡ suc n = omega (arith, m-is) in
    subst (λ (x : List ℕ). EndsFirst text line x) (sym (after-is ∙ take_rest text m))
    (subst (λ (x : List ℕ). EndsFirst text x (drop m text)) (sym line-is)
    (subst (λ (k : ℕ). EndsFirst text (take k text) (drop k text)) (sym next) (ends_at text n e)))

-- ---- cutting

first_cut : (p rest : List ℕ) → is_in_line p ≡ true → cut_lines (p ++ 10 ∷ rest) ≡ ended p ∷ cut_lines rest
first_cut [] rest h = refl
first_cut (b ∷ p) rest h =
    let k = and_parts (not (b == 10)) (is_in_line p) h in
    cond-false (b == 10) ((b ∷ []) ∷ cut_lines (p ++ 10 ∷ rest)) (put_before b (cut_lines (p ++ 10 ∷ rest))) (not-true (b == 10) k.0) ∙ ap (put_before b)
    (first_cut p rest k.1)

pub last_cut : (p : List ℕ) → is_in_line p ≡ true → 0 < length p → cut_lines p ≡ p ∷ []
last_cut [] h some = absurd (omega arith)
last_cut (b ∷ p) h some =
    let k = and_parts (not (b == 10)) (is_in_line p) h in
    cond-false (b == 10) ((b ∷ []) ∷ cut_lines p) (put_before b (cut_lines p)) (not-true (b == 10) k.0) ∙ by_rest p (λ some. last_cut p k.1 some)
  where
    by_rest : (r : List ℕ) → (0 < length r → cut_lines r ≡ r ∷ []) → put_before b (cut_lines r) ≡ (b ∷ r) ∷ []
    by_rest [] last = refl
    by_rest (x ∷ r) last = ap (put_before b) (last (omega arith))

-- the lines of a text that has begun with pieces
pub cut_begun : (text : List ℕ) (ps : List (List ℕ)) (more : List ℕ) → IsBegun text ps more → cut_lines text ≡ map ended ps ++ cut_lines more
cut_begun text ps more b = begun_cut cut_lines ended first_cut text ps more b

-- ---- bytes without LF spell nothing

has_end : (xs : List ℕ) → is_in_line (xs ++ 10 ∷ []) ≡ true → ⊥
has_end [] h = both_ways false refl h
has_end (x ∷ xs) h = has_end xs (and_parts (not (x == 10)) (is_in_line (xs ++ 10 ∷ [])) h).1

pub unspelled : (bytes : List ℕ) (l : CertLine) → is_in_line bytes ≡ true → IsSpelled bytes l → ⊥
unspelled bytes l h s = has_end (words l) (ap is_in_line (sym s.1) ∙ h)

pub ended_has : (xs : List ℕ) → EndsWithLf (ended xs)
ended_has xs = (xs, refl)

pub never_long : (limit : ℕ) (bytes : List ℕ) → is_in_line bytes ≡ true → IsLong limit bytes → ⊥
never_long limit bytes h l = has_end l.1.0 (ap is_in_line (sym l.1.1) ∙ h)

pub misspelt_rest : (limit : ℕ) (bytes : List ℕ) → is_in_line bytes ≡ true → IsMisspelt limit bytes
misspelt_rest limit bytes h = record { not_long = λ l. never_long limit bytes h l; none = λ l s. unspelled bytes l h s }

-- ---- a line of which the first bytes are kept

-- The first bytes of a front, as many as a line may have, with an LF behind them.
abbrev pub kept_line : ℕ → List ℕ → List ℕ
kept_line limit front = ended (take limit front)

kept_whole : (limit : ℕ) (front : List ℕ) → length (kept_line limit front) ≤ limit → kept_line limit front ≡ ended front
kept_whole limit front h =
    ap ended (take_all limit front (omega (arith, h, length-append (take limit front) (10 ∷ []), length-take limit front)))

pub kept_is_line : (limit : ℕ) (front : List ℕ) (l : CertLine) → IsLine limit (kept_line limit front) l → IsLine limit (ended front) l
kept_is_line limit front l h = subst (λ (x : List ℕ). IsLine limit x l) (kept_whole limit front h.0) h

longer : (limit : ℕ) (front : List ℕ) → limit < length (kept_line limit front) → limit < length (ended front)
longer limit front h = omega (arith, h, length-append (take limit front) (10 ∷ []), length-append front (10 ∷ []), length-take limit front)

pub kept_is_long : (limit : ℕ) (front : List ℕ) → IsLong limit (kept_line limit front) → IsLong limit (ended front)
kept_is_long limit front h = (longer limit front h.0, ended_has front)

pub kept_is_misspelt : (limit : ℕ) (front : List ℕ) → IsMisspelt limit (kept_line limit front) → IsMisspelt limit (ended front)
kept_is_misspelt limit front h = by_order (cases_order (length (kept_line limit front)) limit)
  where
    short : length (kept_line limit front) ≤ limit → IsMisspelt limit (ended front)
    short le = subst (IsMisspelt limit) (kept_whole limit front le) h

    by_order : (length (kept_line limit front) ≡ limit) ⊎ ((length (kept_line limit front) < limit) ⊎ (limit < length (kept_line limit front))) →
        IsMisspelt limit (ended front)
    by_order (inl e) = short (omega (arith, e))
    by_order (inr (inl lt)) = short (omega (arith, lt))
    by_order (inr (inr gt)) = absurd (h.not_long (gt, ended_has (take limit front)))
