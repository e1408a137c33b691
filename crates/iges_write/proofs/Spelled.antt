-- The spelling of a value is a spelling of it.
use Rattle.std.proofs.Common.{◌≡◌, ℕ, suc, ◌<◌, ◌^◌, true, false, List, [], ◌∷◌, length, drop, ℤ, pos, negsuc, neg_ℤ, Some, None, refl, ap, ◌∙◌, arith}
use Rattle.std.specs.Prelude.{nat_lt, nat_le, ◌==◌}
use Rattle.std.specs.Char.{is_ascii_digit}
use Rattle.std.specs.Fmt.{decimal, signed_decimal}
use Rattle.std.specs.List.{list_all}
use Rattle.std.specs.Str.Parse.{AllDigits, IsNumeral, digits_value, without_leading_sign, starts_with_minus}
use Rattle.std.proofs.lemmas.Fmt.{decimal_is_IsNumeral}
use Rattle.std.proofs.lemmas.Str.Parse.{digit_from_value}
use Rattle.std.proofs.lemmas.Bool.{and_parts, and_from, cond-true, cond-false, le-leb, leb-true, ltb-true, ne_eqb}
use Rattle.iges_fields.specs.declared.value.Value.{Value}
use Rattle.iges_fields.specs.declared.value.Value.TheVariants as value
use Rattle.iges_base.specs.Word.{are_digits, is_integer, integer}
use Rattle.iges_fields.specs.FreeText.{Spells, fits_64_bits}
use Rattle.iges_fields.specs.Spelled.{spelling}
use Rattle.iges_base.specs.InLine.{is_in_line}
use Rattle.iges_fields.specs.InLine.{is_value}

all_digits : (ds : List ℕ) → AllDigits 10 ds → list_all is_ascii_digit ds ≡ true
all_digits [] h = refl
all_digits (b ∷ ds) h =
    let r = digit_from_value b h.0 in
    and_from (is_ascii_digit b) (list_all is_ascii_digit ds) (and_from (nat_le 48 b) (nat_le b 57) (le-leb 48 b r.0) (le-leb b 57 r.1)) (all_digits ds h.1)

pub numeral_digits : (ds : List ℕ) → IsNumeral 10 ds → are_digits ds ≡ true
numeral_digits [] h = absurd (omega (arith, h.0))
numeral_digits (b ∷ ds) h = all_digits (b ∷ ds) h.1

-- the digits of a number have no sign
unsigned : (ds : List ℕ) → are_digits ds ≡ true → (without_leading_sign ds ≡ ds) × (starts_with_minus ds ≡ false)
unsigned [] e = absurd cc
unsigned (b ∷ ds) e =
    let digit = (and_parts (is_ascii_digit b) (list_all is_ascii_digit ds) e).0 in
    let low = leb-true 48 b (and_parts (nat_le 48 b) (nat_le b 57) digit).0 in
    let minus : (b == 45) ≡ false = ne_eqb b 45 (λ h. omega (arith, h, low)) in
    let plus : (b == 43) ≡ false = ne_eqb b 43 (λ h. omega (arith, h, low)) in
    (cond-false (b == 45) _ _ minus ∙ ap (λ (n : ℕ). drop n (b ∷ ds)) (cond-false (b == 43) 1 0 plus), minus)

pub decimal_digits : (n : ℕ) → n < 2 ^ 64 → (are_digits (decimal n) ≡ true) × (digits_value 10 (decimal n) ≡ n)
decimal_digits n h = let d = decimal_is_IsNumeral n h in (numeral_digits (decimal n) d.0, d.1)

pub integer-signed_decimal : (z : ℤ) → fits_64_bits z ≡ true → integer (signed_decimal z) ≡ Some z
integer-signed_decimal (pos n) fits =
    let d = decimal_digits n (omega (arith, leb-true n 9223372036854775807 fits)) in
    let u = unsigned (decimal n) d.0 in
    let is : is_integer (decimal n) ≡ true = ap are_digits u.0 ∙ d.0 in
    cond-true (is_integer (decimal n)) _ None is
    ∙ ap Some (cond-false (starts_with_minus (decimal n)) _ _ u.1 ∙ ap (λ (ds : List ℕ). pos (digits_value 10 ds)) u.0 ∙ ap pos d.1)
integer-signed_decimal (negsuc n) fits =
    let d = decimal_digits (suc n) (omega (arith, leb-true n 9223372036854775807 (and_parts (nat_le n 9223372036854775807) true fits).0)) in
    cond-true (is_integer (45 ∷ decimal (suc n))) _ None d.0 ∙ ap (λ (m : ℕ). Some (neg_ℤ (pos m))) d.1

pub Spells-spelling : (v : Value) → is_value v ≡ true → Spells v (spelling v)
Spells-spelling value.Default ok = refl
Spells-spelling (value.Int n) ok = (integer-signed_decimal n ok, ok)
Spells-spelling (value.Real word) ok = (ok, refl)
Spells-spelling (value.Text text) ok = let d = decimal_digits (length text) (ltb-true _ _ (and_parts (is_in_line text) (nat_lt (length text) (2 ^ 64)) ok).1)
    in (decimal (length text), d.0, d.1, refl)
