-- Words of a text: spaces, signs, digits, integers, and the number in a field of columns.
use Rattle.std.specs.Prelude.{ℕ, Bool, true, false, not, ◌&&◌, ◌==◌, List, [], ◌∷◌, drop, replicate, reverse, ℤ, pos, Option, Some, None, if◌then◌else◌}
use Rattle.std.specs.Char.{is_ascii_digit}
use Rattle.std.specs.List.{list_all, prefix_len}
use Rattle.std.specs.Str.Parse.{signed_digits_value, without_leading_sign}

abbrev pub is_empty : {X : Type 0} → List X → Bool
is_empty [] = true
is_empty (x ∷ xs) = false

abbrev pub is_space : ℕ → Bool
is_space b = b == 32

abbrev pub spaces : ℕ → List ℕ
spaces n = replicate n 32

-- a text without the spaces at its front
abbrev pub after_spaces : List ℕ → List ℕ
after_spaces text = drop (prefix_len is_space text) text

-- a text without the spaces at its two ends
abbrev pub trim : List ℕ → List ℕ
trim text = reverse (after_spaces (reverse (after_spaces text)))

-- one or more digits, and nothing else
abbrev pub are_digits : List ℕ → Bool
are_digits word = not (is_empty word) && list_all is_ascii_digit word

-- an optional sign and one or more digits
abbrev pub is_integer : List ℕ → Bool
is_integer word = are_digits (without_leading_sign word)

-- the number of an optional sign and one or more digits
abbrev pub integer : List ℕ → Option ℤ
integer word = if is_integer word then Some (signed_digits_value 10 word) else None

-- The number in a field of columns. Only spaces are 0.
abbrev pub column_number : List ℕ → Option ℤ
column_number field = let word = trim field in if is_empty word then Some (pos 0) else integer word
