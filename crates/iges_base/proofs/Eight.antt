-- Words of few bytes are small numbers.
use Rattle.std.proofs.Common.{◌≡◌, ℕ, ◌<◌, ◌≤◌, ◌^◌, true, List, [], ◌∷◌, length, arith, lit<}
use Rattle.std.proofs.Math.Nat.{pow-le-pow_right}
use Rattle.std.specs.Char.{is_ascii_digit}
use Rattle.std.specs.List.{list_all}
use Rattle.std.specs.Str.Parse.{AllDigits, digits_value}
use Rattle.std.proofs.lemmas.Bool.{and_parts}
use Rattle.std.proofs.lemmas.Int.Digits.{digits_value-lt}
use Rattle.std.proofs.lemmas.Str.{digit_value_digit}
use Rattle.iges_base.proofs.DigitFronts.{digit_range}

pub all_digits : (ds : List ℕ) → list_all is_ascii_digit ds ≡ true → AllDigits 10 ds
all_digits [] h = tt
all_digits (b ∷ ds) h =
    let parts = and_parts (is_ascii_digit b) (list_all is_ascii_digit ds) h in
    let inside = digit_range b parts.0 in
    (omega (arith, digit_value_digit b inside, inside.1), all_digits ds parts.1)

pub small_value : (ds : List ℕ) → list_all is_ascii_digit ds ≡ true → length ds ≤ 8 → digits_value 10 ds < 1000000000
small_value ds all few =
    let below = digits_value-lt 10 ds (all_digits ds all) in
    let bound : 10 ^ length ds ≤ 10 ^ 8 = pow-le-pow_right (lit< tt) few in
    omega (arith, below, bound)
