-- The digits and points at the front of a text, and an exponent.
use Rattle.std.specs.Prelude.{◌≡◌, ℕ, min, Bool, true, ◌||◌, ◌&&◌, List, [], ◌∷◌, take, count_by}
use Rattle.std.specs.Char.{is_ascii_digit}
use Rattle.std.specs.List.{prefix_len}
use Rattle.std.specs.Str.Parse.{digits_value}
use Rattle.iges_base.specs.declared.mantissa.Mantissa.{Mantissa}
use Rattle.iges_base.specs.Reals.{is_exponent_letter, is_point}
use Rattle.iges_base.specs.Word.{is_integer}

abbrev pub is_mantissa_byte : ℕ → Bool
is_mantissa_byte b = is_ascii_digit b || is_point b

-- the number, or the first past 2^63 where it is more
abbrev pub up_to_past : ℕ → ℕ
up_to_past n = min n 9223372036854775809

-- how long they are, how many of them are points, and the number that they write, where none is a point
pub record IsMantissa (text : List ℕ) (m : Mantissa) : Type 0 where
  pub len : m.len ≡ prefix_len is_mantissa_byte text
  pub points : m.points ≡ count_by is_point (take m.len text)
  pub value : m.points ≡ 0 → m.value ≡ up_to_past (digits_value 10 (take m.len text))

-- nothing, or an exponent's letter and its integer
abbrev pub is_power : List ℕ → Bool
is_power [] = true
is_power (letter ∷ power) = is_exponent_letter letter && is_integer power
