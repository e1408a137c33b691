-- The parts of a word, and its text.
use Rattle.std.proofs.Common.{◌≡◌, ℕ, ◌+◌, ◌-◌, ◌^◌, ◌<◌, ◌≤◌, Bool, true, false, List, ◌∷◌, ◌++◌, length, refl, sym, ap, ◌∙◌, arith, length-append}
use Rattle.std.specs.Prelude.{min, nat_le, take_while, if◌then◌else◌}
use Rattle.std.specs.Char.{is_ascii_digit}
use Rattle.std.specs.Str.Parse.{digits_value, starts_with_minus, without_leading_sign}
use Rattle.std.proofs.lemmas.Bool.{le-leb, leb-true}
use Rattle.equal_values.specs.Spelled.{whole, fraction, exponent, digits, power, is_far, raised}
use Rattle.equal_values.specs.Canonical.{after_zeros, before_zeros, significant, scale, number_text, word_text}
use Rattle.equal_values.proofs.Texts.{near, text_near, text_far}

pub record HasParts (word w f x : List ℕ) (p s : ℕ) : Type 0 where
  pub whole_is : w ≡ whole word
  pub fraction_is : f ≡ fraction word
  pub exponent_is : x ≡ exponent word
  pub power_is : p ≡ min (digits_value 10 (take_while is_ascii_digit (without_leading_sign x))) (2 ^ 62)
  pub sum_is : s ≡ min (p + length word) (2 ^ 64 - 1)

module _ (word w f x : List ℕ) (p s : ℕ) (has : HasParts word w f x p s) where
  size_is : p ≡ min (power word) (2 ^ 62)
  size_is = has.power_is ∙ ap (λ (t : List ℕ). min (digits_value 10 (take_while is_ascii_digit (without_leading_sign t))) (2 ^ 62)) has.exponent_is

  pub far_text : 2 ^ 62 ≤ s → 33 ∷ word ≡ word_text word
  far_text h = sym (text_far word (le-leb (2 ^ 62) (power word + length word) (omega (arith, h, size_is, has.sum_is))))

  not_far : s < 2 ^ 62 → is_far word ≡ false
  not_far h = below (nat_le (2 ^ 62) (power word + length word)) refl
    where
      below : (b : Bool) → nat_le (2 ^ 62) (power word + length word) ≡ b → nat_le (2 ^ 62) (power word + length word) ≡ false
      below false e = e
      below true e = absurd (let le = leb-true (2 ^ 62) (power word + length word) e in omega (arith, h, le, size_is, has.sum_is))

  module _ (h : s < 2 ^ 62) (r : ℕ) (raised_is : r ≡ if starts_with_minus x then 2 ^ 62 - p else 2 ^ 62 + p) (a b : List ℕ) (left : a ++ b ≡ after_zeros (w ++ f)) where
    same_power : p ≡ power word
    same_power = omega (arith, h, size_is, has.sum_is)

    same_raised : r ≡ raised word
    same_raised =
        raised_is ∙ ap (λ (t : List ℕ). if starts_with_minus t then 2 ^ 62 - p else 2 ^ 62 + p) has.exponent_is
        ∙ ap (λ (n : ℕ). if starts_with_minus (exponent word) then 2 ^ 62 - n else 2 ^ 62 + n) same_power

    same_left : a ++ b ≡ after_zeros (digits word)
    same_left = left ∙ ap (λ (t : List ℕ). after_zeros (t ++ f)) has.whole_is ∙ ap (λ (t : List ℕ). after_zeros (whole word ++ t)) has.fraction_is

    long : length a + length b ≡ length (after_zeros (digits word))
    long = sym (length-append a b) ∙ ap length same_left

    pub fits : r + (length a + length b) < 2 ^ 64
    fits = let n = near word (not_far h) in omega (arith, n.few, same_raised, long)

    pub goes : length f ≤ r + (length a + length b)
    goes = let n = near word (not_far h) in omega (arith, n.low, same_raised, ap length has.fraction_is)

    same_scale : r + (length a + length b) - length f ≡ scale word
    same_scale =
        let n = near word (not_far h) in omega (arith, n.low, n.scale_is, same_raised, long, ap length has.fraction_is)

    pub parts_text : (c d : List ℕ) → c ++ d ≡ before_zeros (a ++ b)
        → number_text (starts_with_minus word) (c ++ d) (r + (length a + length b) - length f) ≡ word_text word
    parts_text c d e =
        ap (λ (ds : List ℕ). number_text (starts_with_minus word) ds (r + (length a + length b) - length f)) (e ∙ ap before_zeros same_left)
        ∙ ap (number_text (starts_with_minus word) (significant (digits word))) same_scale ∙ sym (text_near word (not_far h))
