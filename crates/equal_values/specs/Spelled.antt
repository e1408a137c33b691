-- The number that a word spells: an optional sign, digits, and behind a point more digits; then a letter and an exponent of ten.
use Rattle.std.specs.Prelude.{ℕ, ◌+◌, ◌-◌, ◌^◌, Bool, nat_le, List, ◌++◌, length, drop, take_while, if◌then◌else◌}
use Rattle.std.specs.Char.{is_ascii_digit}
use Rattle.std.specs.Str.Parse.{digits_value, starts_with_minus, without_leading_sign}
use Rattle.iges_fields.specs.FreeText.{begins_with}
use Rattle.iges_base.specs.Reals.{is_point}

abbrev pub after_point : List ℕ → List ℕ
after_point text = drop (if begins_with is_point text then 1 else 0) text

module _ (word : List ℕ) where
  -- the digits before the point
  abbrev pub whole : List ℕ
  whole = take_while is_ascii_digit (without_leading_sign word)

  abbrev pub behind_whole : List ℕ
  behind_whole = after_point (drop (length whole) (without_leading_sign word))

  -- the digits behind it
  abbrev pub fraction : List ℕ
  fraction = take_while is_ascii_digit behind_whole

  -- what comes behind the exponent's letter
  abbrev pub exponent : List ℕ
  exponent = drop 1 (drop (length fraction) behind_whole)

  -- the mantissa, as if there were no point
  abbrev pub digits : List ℕ
  digits = whole ++ fraction

  abbrev pub mantissa : ℕ
  mantissa = digits_value 10 digits

  -- how large the exponent is, whatever its sign
  abbrev pub power : ℕ
  power = digits_value 10 (take_while is_ascii_digit (without_leading_sign exponent))

  -- An exponent that 62 bits don't hold, the length of the word added to it: it isn't computed with.
  abbrev pub is_far : Bool
  is_far = nat_le (2 ^ 62) (power + length word)

  -- the exponent and 2 ^ 62, which is no less than 0 where the exponent isn't far
  abbrev pub raised : ℕ
  raised = if starts_with_minus exponent then 2 ^ 62 - power else 2 ^ 62 + power
