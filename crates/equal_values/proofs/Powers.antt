-- The number of an exponent's digits, digit by digit.
use Rattle.std.proofs.Common.{◌≡◌, ℕ, ◌+◌, ◌-◌, ◌*◌, ◌^◌, ◌<◌, ◌≤◌, Bool, true, false, List, ◌∷◌, length, take, drop, get_or, refl, sym, ap, ◌∙◌, arith}
use Rattle.std.specs.Prelude.{min, nat_le, take_while}
use Rattle.std.specs.Fmt.{decimal}
use Rattle.equal_values.specs.Canonical.{exponent_text}
use Rattle.std.proofs.lemmas.Bool.{cond-true, cond-false, le-leb, leb-true}
use Rattle.std.specs.Char.{is_ascii_digit}
use Rattle.std.specs.List.{prefix_len}
use Rattle.std.specs.Str.Parse.{digits_value}
use Rattle.std.proofs.lemmas.Int.Digits.{digits_value_more}
use Rattle.std.proofs.lemmas.List.Sums.{prefix_len-drop_yes}
use Rattle.std.proofs.lemmas.Str.{digit_value_digit}
use Rattle.iges_base.proofs.DigitFronts.{digit_range}

-- so far: `len` digits, and what they are
pub record IsSoFar (text : List ℕ) (len value : ℕ) : Type 0 where
  pub within : len ≤ length text
  pub rest : len + prefix_len is_ascii_digit (drop len text) ≡ prefix_len is_ascii_digit text
  pub number : value ≡ min (digits_value 10 (take len text)) (2 ^ 62)

pub digit_more : (text : List ℕ) (len value next : ℕ) → IsSoFar text len value → len < length text → is_ascii_digit (get_or text len 0) ≡ true
    → next ≡ min (value * 10 + (get_or text len 0 - 48)) (2 ^ 62) → IsSoFar text (len + 1) next
digit_more text len value next so_far h e is =
    let range = digit_range (get_or text len 0) e in
    let more = digits_value_more 10 text len h in
    let worth = digit_value_digit (get_or text len 0) range in
    record {
      within = omega arith;
      rest = omega (arith, prefix_len-drop_yes is_ascii_digit text len 0 h e, so_far.rest);
      number = omega (arith, so_far.number, more, worth, is, range.0);
    }

pub digits_done : (text : List ℕ) (len value : ℕ) → IsSoFar text len value → prefix_len is_ascii_digit (drop len text) ≡ 0
    → value ≡ min (digits_value 10 (take_while is_ascii_digit text)) (2 ^ 62)
digits_done text len value so_far e =
    let all : len ≡ prefix_len is_ascii_digit text = omega (arith, so_far.rest, e) in
    so_far.number ∙ ap (λ (n : ℕ). min (digits_value 10 (take n text)) (2 ^ 62)) all

-- ---- how an exponent is told

pub told_high : (n : ℕ) → 2 ^ 62 ≤ n → 69 ∷ decimal (n - 2 ^ 62) ≡ exponent_text n
unfolding exponent_text
told_high n h = sym (cond-true (nat_le (2 ^ 62) n) (69 ∷ decimal (n - 2 ^ 62)) (101 ∷ decimal (2 ^ 62 - n)) (le-leb (2 ^ 62) n h))

pub told_low : (n : ℕ) → n < 2 ^ 62 → 101 ∷ decimal (2 ^ 62 - n) ≡ exponent_text n
unfolding exponent_text
told_low n h = sym (cond-false (nat_le (2 ^ 62) n) (69 ∷ decimal (n - 2 ^ 62)) (101 ∷ decimal (2 ^ 62 - n)) (below (nat_le (2 ^ 62) n) refl))
  where
    below : (b : Bool) → nat_le (2 ^ 62) n ≡ b → nat_le (2 ^ 62) n ≡ false
    below false e = e
    below true e = absurd (let le = leb-true (2 ^ 62) n e in omega (arith, h, le))
