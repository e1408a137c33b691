-- The digits that count and the place of the point say all of a number.
use Rattle.std.proofs.Common.{◌≡◌, ◌⊎◌, inl, inr, ℕ, ◌+◌, ◌*◌, ◌^◌, ◌<◌, List, [], ◌∷◌, ◌++◌, length}
use Rattle.std.proofs.Common.{refl, sym, ap, ◌∙◌, arith, length-append}
use Rattle.std.specs.Str.Parse.{digits_value}
use Rattle.std.proofs.lemmas.List.{length-replicate}
use Rattle.equal_values.specs.Canonical.{after_zeros, before_zeros, significant}
use Rattle.equal_values.proofs.Zeros.{AreDigits, zeros, after_zeros-append, left_behind-some, before_zeros-zeros, before_zeros-is, value_scaled, value_after_zeros}
use Rattle.equal_values.proofs.Zeros.{same_left, none_left, after_zeros-only, after_zeros-is, after_zeros-zeros, are_zeros}

cases_list : (xs : List ℕ) → (xs ≡ []) ⊎ (0 < length xs)
cases_list [] = inl refl
cases_list (x ∷ xs) = inr (omega arith)

nothing : (xs : List ℕ) → length xs ≡ 0 → xs ≡ []
nothing [] e = refl
nothing (x ∷ xs) e = absurd (omega (arith, e))

-- digits without zeros at their front, of which none counts
left_none : (ds : List ℕ) → significant ds ≡ [] → after_zeros ds ≡ []
left_none ds e =
    let b = before_zeros-is (after_zeros ds) in
    let only : after_zeros ds ≡ zeros b.0 = b.1 ∙ ap (λ (t : List ℕ). t ++ zeros b.0) e in
    let a = after_zeros-is ds in
    let all : ds ≡ zeros a.0 ++ zeros b.0 = a.1 ∙ ap (λ (t : List ℕ). zeros a.0 ++ t) only in
    ap after_zeros all ∙ after_zeros-zeros a.0 (zeros b.0) ∙ after_zeros-only b.0

-- no digit counts exactly if the number is 0
pub zero_if_none : (ds : List ℕ) → significant ds ≡ [] → digits_value 10 ds ≡ 0
zero_if_none ds e = sym (value_after_zeros ds) ∙ ap (digits_value 10) (left_none ds e)

pub none_if_zero : (ds : List ℕ) → AreDigits ds → digits_value 10 ds ≡ 0 → significant ds ≡ []
none_if_zero ds d e = ap before_zeros (none_left ds d e)

scaled_front : (m p q : ℕ) → (m * p) * q ≡ m * (p * q)
scaled_front m p q = grind arith

-- two numbers with the same digits that count
pub same_scaled : (a b : List ℕ) → significant a ≡ significant b → (k l : ℕ) × (digits_value 10 a * 10 ^ k ≡ digits_value 10 b * 10 ^ l)
    × (length (after_zeros a) + k ≡ length (after_zeros b) + l)
same_scaled a b e =
    let i = before_zeros-is (after_zeros a) in
    let j = before_zeros-is (after_zeros b) in
    let t : List ℕ = significant a in
    let value_a : digits_value 10 a ≡ digits_value 10 t * 10 ^ i.0 =
    sym (value_after_zeros a) ∙ ap (digits_value 10) i.1 ∙ value_scaled t i.0 in
    let value_b : digits_value 10 b ≡ digits_value 10 t * 10 ^ j.0 =
    sym (value_after_zeros b) ∙ ap (digits_value 10) j.1 ∙ ap (λ (u : List ℕ). digits_value 10 (u ++ zeros j.0)) (sym e) ∙ value_scaled t j.0 in
    let long_a : length (after_zeros a) ≡ length t + i.0 =
    ap length i.1 ∙ length-append t (zeros i.0) ∙ ap (λ (n : ℕ). length t + n) (length-replicate i.0 48) in
    let long_b : length (after_zeros b) ≡ length t + j.0 =
    ap length j.1 ∙ length-append (significant b) (zeros j.0) ∙ ap (λ (n : ℕ). length (significant b) + n) (length-replicate j.0 48)
    ∙ ap (λ (u : List ℕ). length u + j.0) (sym e) in
    let both : digits_value 10 a * 10 ^ j.0 ≡ digits_value 10 b * 10 ^ i.0 =
    ap (λ (n : ℕ). n * 10 ^ j.0) value_a ∙ swapped (digits_value 10 t) (10 ^ i.0) (10 ^ j.0) ∙ ap (λ (n : ℕ). n * 10 ^ i.0) (sym value_b) in
    (j.0, i.0, both, omega (arith, long_a, long_b))
  where
    swapped : (m p q : ℕ) → (m * p) * q ≡ (m * q) * p
    swapped m p q = grind arith

-- the digits of a number that isn't 0, with zeros put behind them
left_scaled : (ds : List ℕ) (k : ℕ) → 0 < length (after_zeros ds) → after_zeros (ds ++ zeros k) ≡ after_zeros ds ++ zeros k
left_scaled ds k h = after_zeros-append ds (zeros k) ∙ left_behind-some (after_zeros ds) (zeros k) h

some_left : (ds : List ℕ) → 0 < digits_value 10 ds → 0 < length (after_zeros ds)
some_left ds h = elim (cases_list (after_zeros ds)) [
  | inl e ↦ let none : digits_value 10 ds ≡ 0 = sym (value_after_zeros ds) ∙ ap (digits_value 10) e in absurd (omega (arith, none, h))
  | inr s ↦ s
]

-- equal numbers that aren't 0 have the same digits that count, and their lengths differ as the zeros behind them do
pub same_digits : (a b : List ℕ) (k l : ℕ) → AreDigits a → AreDigits b → digits_value 10 a * 10 ^ k ≡ digits_value 10 b * 10 ^ l
    → 0 < digits_value 10 a → 0 < digits_value 10 b → (significant a ≡ significant b) × (length (after_zeros a) + k ≡ length (after_zeros b) + l)
same_digits a b k l da db e some other =
    let values : digits_value 10 (a ++ zeros k) ≡ digits_value 10 (b ++ zeros l) = value_scaled a k ∙ e ∙ sym (value_scaled b l) in
    let left : after_zeros a ++ zeros k ≡ after_zeros b ++ zeros l =
    sym (left_scaled a k (some_left a some))
    ∙ same_left (a ++ zeros k) (b ++ zeros l) (are_zeros a k da) (are_zeros b l db) values
    ∙ left_scaled b l (some_left b other) in
    let long : length (after_zeros a) + k ≡ length (after_zeros b) + l =
    sym (length-append (after_zeros a) (zeros k) ∙ ap (λ (n : ℕ). length (after_zeros a) + n) (length-replicate k 48))
    ∙ ap length left ∙ length-append (after_zeros b) (zeros l) ∙ ap (λ (n : ℕ). length (after_zeros b) + n) (length-replicate l 48) in
    (sym (before_zeros-zeros (after_zeros a) k) ∙ ap before_zeros left ∙ before_zeros-zeros (after_zeros b) l, long)
