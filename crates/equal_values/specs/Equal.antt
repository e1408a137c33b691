-- Values that are equal, numbers as numbers: nothing is rounded.
use Rattle.std.specs.Prelude.{◌≡◌, ◌⊎◌, ℕ, ◌+◌, ◌*◌, ◌^◌, List, length, IsFalse}
use Rattle.std.specs.Fmt.{signed_decimal}
use Rattle.std.specs.Str.Parse.{starts_with_minus}
use Rattle.iges_fields.specs.declared.value.Value.{Value}
use Rattle.iges_fields.specs.declared.value.Value.TheVariants as value
use Rattle.equal_values.specs.Spelled.{fraction, mantissa, is_far, raised}

-- the same mantissa and exponent, once so many zeros are put behind the digits of each
abbrev pub AreSameScaled : List ℕ → List ℕ → Type 0
AreSameScaled a b = (k l : ℕ) × (mantissa a * 10 ^ k ≡ mantissa b * 10 ^ l) × (raised a + (length (fraction b) + l) ≡ raised b + (length (fraction a) + k))

-- both zero, whatever their signs, or the same number with the same sign
abbrev pub AreSameNumber : List ℕ → List ℕ → Type 0
AreSameNumber a b = ((mantissa a ≡ 0) × (mantissa b ≡ 0)) ⊎ ((starts_with_minus a ≡ starts_with_minus b) × AreSameScaled a b)

-- the words of two numbers: spelled alike, or the same number; one whose exponent is far is equal only to one spelled alike
abbrev pub AreEqualWords : List ℕ → List ℕ → Type 0
AreEqualWords a b = (a ≡ b) ⊎ (IsFalse (is_far a) × IsFalse (is_far b) × AreSameNumber a b)

-- the value is a number that is equal to the word's
abbrev pub IsNumber : List ℕ → Value → Type 0
IsNumber word value.Default = ⊥
IsNumber word (value.Int n) = AreEqualWords word (signed_decimal n)
IsNumber word (value.Real other) = AreEqualWords word other
IsNumber word (value.Text text) = ⊥

-- Two numbers that are equal, an integer being what its digits spell; two values left out; or two texts of the same bytes.
abbrev pub AreEqualValues : Value → Value → Type 0
AreEqualValues value.Default b = b ≡ value.Default
AreEqualValues (value.Int n) b = IsNumber (signed_decimal n) b
AreEqualValues (value.Real word) b = IsNumber word b
AreEqualValues (value.Text text) b = b ≡ value.Text text
