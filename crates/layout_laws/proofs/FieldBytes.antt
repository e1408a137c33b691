-- The bytes of a field that holds a number.
use Rattle.std.proofs.Common.{◌≡◌, inl, inr, ℕ, zero, suc, Bool, true, false, cond, List, [], ◌∷◌, ◌++◌, drop, Option, Some, None, ℤ, pos, refl, sym, ap, subst}
use Rattle.std.proofs.Common.{◌∙◌}
use Rattle.std.specs.Prelude.{◌==◌, ◌||◌}
use Rattle.std.specs.Char.{is_ascii_digit}
use Rattle.std.specs.List.{list_all}
use Rattle.std.specs.Option.{option_map_or}
use Rattle.std.specs.Ordering.{int_eq}
use Rattle.std.specs.Cmp.{signed_Decides}
use Rattle.std.specs.Str.Parse.{without_leading_sign, without_leading_plus}
use Rattle.std.proofs.lemmas.Bool.{and_parts, and_from, cases_Bool, cond-true, cond-false, or_cases, or_left, eqb-true}
use Rattle.iges_base.proofs.Lists.{list_all-both}
use Rattle.iges_base.specs.Word.{is_empty, spaces, trim, integer, column_number}
use Rattle.iges_base.proofs.Spaces.{trim-is}
use Rattle.iges_base.proofs.Lists.{list_all-implies}
use Rattle.iges_fields.proofs.Words.{integer_is}
use Rattle.line_layout.specs.Columns.{has_number, natural, number_in, or_plain}
use Rattle.line_layout.specs.Marks.{is_blank_byte, is_tail_byte}

-- digits, signs and spaces
abbrev pub is_field_byte : ℕ → Bool
is_field_byte b = is_ascii_digit b || b == 43 || b == 45 || b == 32

abbrev are_field_bytes : List ℕ → Bool
are_field_bytes word = list_all is_field_byte word

digit_field : (b : ℕ) → is_ascii_digit b ≡ true → is_field_byte b ≡ true
digit_field b h = or_left (is_ascii_digit b || b == 43 || b == 45) (b == 32)
    (or_left (is_ascii_digit b || b == 43) (b == 45) (or_left (is_ascii_digit b) (b == 43) h))

signed_field : (word : List ℕ) → are_field_bytes (without_leading_sign word) ≡ true → are_field_bytes word ≡ true
signed_field [] h = refl
signed_field (b ∷ word) h =
    elim (cases_Bool (b == 45)) [
      | inl e ↦ and_from (is_field_byte b) (are_field_bytes word) (subst (λ (x : ℕ). is_field_byte x ≡ true) (sym (eqb-true b 45 e)) refl)
          (ap are_field_bytes (sym (cond-true (b == 45) word (without_leading_plus (b ∷ word)) e)) ∙ h)
      | inr e ↦
          let plus : are_field_bytes (without_leading_plus (b ∷ word)) ≡ true = ap are_field_bytes
          (sym (cond-false (b == 45) word (without_leading_plus (b ∷ word)) e)) ∙ h in
          elim (cases_Bool (b == 43)) [
            | inl f ↦ and_from (is_field_byte b) (are_field_bytes word) (subst (λ (x : ℕ). is_field_byte x ≡ true) (sym (eqb-true b 43 f)) refl)
                (ap (λ (n : ℕ). are_field_bytes (drop n (b ∷ word))) (sym (cond-true (b == 43) 1 0 f)) ∙ plus)
            | inr f ↦ ap (λ (n : ℕ). are_field_bytes (drop n (b ∷ word))) (sym (cond-false (b == 43) 1 0 f)) ∙ plus
          ]
    ]

spaces_field : (n : ℕ) → are_field_bytes (spaces n) ≡ true
spaces_field zero = refl
spaces_field (suc n) = spaces_field n

word_field : (word : List ℕ) (z : ℤ) → cond (is_empty word) (Some (pos 0)) (integer word) ≡ Some z → are_field_bytes word ≡ true
word_field [] z e = refl
word_field (b ∷ word) z e =
    let whole = (integer_is (b ∷ word) z e).0 in
    let digits = without_leading_sign (b ∷ word) in
    signed_field (b ∷ word) (list_all-implies is_ascii_digit is_field_byte digit_field digits (and_parts _ (list_all is_ascii_digit digits) whole).1)

pub number_bytes : (field : List ℕ) (z : ℤ) → column_number field ≡ Some z → list_all is_field_byte field ≡ true
number_bytes field z e =
    let t = trim-is field in
    ap are_field_bytes t.2
    ∙ list_all-both is_field_byte (spaces t.0 ++ trim field) (spaces t.1)
    (list_all-both is_field_byte (spaces t.0) (trim field) (spaces_field t.0) (word_field (trim field) z e)) (spaces_field t.1)

pub field_in_tail : (b : ℕ) → is_field_byte b ≡ true → is_tail_byte b ≡ true
field_in_tail b h =
    let front = is_ascii_digit b || b == 43 || b == 45 in
    elim (or_cases front (b == 32) h) [
      | inl e ↦ or_left front (is_blank_byte b) e
      | inr e ↦ subst (λ (x : ℕ). is_tail_byte x ≡ true) (sym (eqb-true b 32 e)) refl
    ]

pub has_number-is : (field : List ℕ) (n : ℕ) → has_number field n ≡ true → column_number field ≡ Some (pos n)
has_number-is field n e = by_option (column_number field) e
  where
    by_option : (o : Option ℤ) → option_map_or (λ z. int_eq z (pos n)) o false ≡ true → o ≡ Some (pos n)
    by_option None e = absurd cc
    by_option (Some z) e = ap (λ (x : ℤ). Some x) ((signed_Decides z (pos n)).0 e)

-- a number that can be read as it stands
pub number_in-is : (field : List ℕ) (n : ℕ) → column_number field ≡ Some (pos n) → number_in field ≡ n
number_in-is field n e = ap (λ (o : Option ℤ). option_map_or natural (or_plain o field) 0) e
