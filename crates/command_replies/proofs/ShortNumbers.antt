-- A word that is not read as a number of 32 bits writes no number up to one of them.
use Rattle.std.proofs.Common.{◌≡◌, ℕ, ◌&&◌, ◌<◌, ◌^◌, Bool, not, true, false, List, [], ◌∷◌, length, Err, refl, arith}
use Rattle.std.specs.Prelude.{nat_le}
use Rattle.std.specs.Char.{is_ascii_digit}
use Rattle.std.specs.List.{list_all}
use Rattle.std.specs.Str.Parse.{ParsesUnsigned, digits_value}
use Rattle.std.proofs.lemmas.Bool.{and_parts, and_from, le-leb, leb-true}
use Rattle.std.proofs.lemmas.Str.Parse.{IsDigitsTest, IsNumeralModel, numerals_by_value, parse_gives}
use Rattle.iges_base.specs.Word.{are_digits, is_empty}
use Rattle.iges_base.proofs.DigitFronts.{digit_range}
use Rattle.command_replies.specs.Numbers.{is_number}

abbrev AreAllDigits : List ℕ → Type 0
AreAllDigits ds = list_all is_ascii_digit ds ≡ true

tells : IsDigitsTest AreAllDigits
tells = record {
  empty = refl;
  parts = λ c cs all. let parts = and_parts (is_ascii_digit c) (list_all is_ascii_digit cs) all in (digit_range c parts.0, parts.1);
  more = λ c cs inside all. and_from (is_ascii_digit c) (list_all is_ascii_digit cs)
      (and_from (nat_le 48 c) (nat_le c 57) (le-leb 48 c inside.0) (le-leb c 57 inside.1)) all;
}

own : IsNumeralModel AreAllDigits (digits_value 10)
own = numerals_by_value AreAllDigits tells

some_digits : (w : List ℕ) → not (is_empty w) ≡ true → 0 < length w
some_digits [] some = absurd cc
some_digits (x ∷ w) some = omega arith

not_true : (b : Bool) → (b ≡ true → ⊥) → b ≡ false
not_true true none = absurd (none refl)
not_true false none = refl

pub unread_unfit : {E : Type 0} (w : List ℕ) (digits least greatest : ℕ) (e : E) → greatest < 2 ^ 32 → ParsesUnsigned 32 10 w (Err e)
    → is_number digits least greatest w ≡ false
unread_unfit w digits least greatest e few parses = not_true (is_number digits least greatest w) read
  where
    read : is_number digits least greatest w ≡ true → ⊥
    read fit =
        let upper = and_parts (are_digits w && nat_le (length w) digits && nat_le least (digits_value 10 w)) (nat_le (digits_value 10 w) greatest) fit in
        let lower = and_parts (are_digits w && nat_le (length w) digits) (nat_le least (digits_value 10 w)) upper.0 in
        let short = and_parts (are_digits w) (nat_le (length w) digits) lower.0 in
        let all = and_parts (not (is_empty w)) (list_all is_ascii_digit w) short.0 in
        let ok = parse_gives own 32 w (Err e) parses all.1 (some_digits w all.0) (omega (arith, leb-true (digits_value 10 w) greatest upper.1, few)) in
        absurd cc
