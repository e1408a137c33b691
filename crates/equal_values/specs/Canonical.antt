-- One text for all values that are equal.
use Rattle.std.specs.Prelude.{ℕ, ◌+◌, ◌-◌, ◌^◌, ◌==◌, Bool, nat_le, List, [], ◌∷◌, ◌++◌, length, drop, reverse, if◌then◌else◌}
use Rattle.std.specs.Fmt.{decimal, signed_decimal}
use Rattle.std.specs.List.{prefix_len}
use Rattle.std.specs.Str.Parse.{starts_with_minus}
use Rattle.iges_fields.specs.declared.value.Value.{Value}
use Rattle.iges_fields.specs.declared.value.Value.TheVariants as value
use Rattle.equal_values.specs.Spelled.{fraction, digits, is_far, raised}

abbrev pub is_zero : ℕ → Bool
is_zero b = b == 48

-- digits without the zeros at their front
abbrev pub after_zeros : List ℕ → List ℕ
after_zeros text = drop (prefix_len is_zero text) text

-- without those at their end
abbrev pub before_zeros : List ℕ → List ℕ
before_zeros text = reverse (after_zeros (reverse text))

-- without those at both
abbrev pub significant : List ℕ → List ℕ
significant text = before_zeros (after_zeros text)

-- the exponent of the number where the point stands before the first digit that isn't 0, and 2 ^ 62
unfoldable pub scale : List ℕ → ℕ
scale word = (raised word + length (after_zeros (digits word))) - length (fraction word)

-- an exponent, of which 2 ^ 62 more is told: `E` and digits, with `e` in place of `E` where it's less than 0
unfoldable pub exponent_text : ℕ → List ℕ
exponent_text n = if nat_le (2 ^ 62) n then 69 ∷ decimal (n - 2 ^ 62) else 101 ∷ decimal (2 ^ 62 - n)

-- a sign, the digits that count, and the exponent; `0` for zero
abbrev pub number_text : Bool → List ℕ → ℕ → List ℕ
number_text negative [] n = 48 ∷ []
number_text negative (d ∷ ds) n = (if negative then 45 else 43) ∷ (d ∷ ds) ++ exponent_text n

-- the same of a word's number, and the word itself behind `!` where its exponent is far
unfoldable pub word_text : List ℕ → List ℕ
word_text word = if is_far word then 33 ∷ word else number_text (starts_with_minus word) (significant (digits word)) (scale word)

-- the same of a value; a text stands behind `H`
abbrev pub canonical : Value → List ℕ
canonical value.Default = []
canonical (value.Int n) = word_text (signed_decimal n)
canonical (value.Real word) = word_text word
canonical (value.Text text) = 72 ∷ text
