-- Digits at the front of a text, behind which a delimiter stands.
use Rattle.std.proofs.Common.{◌≡◌, ℕ, zero, suc, ◌-◌, ◌^◌, ◌<◌, ◌≤◌, Bool, true, false, not, List, [], ◌∷◌, ◌++◌, length, take, drop, get_or, ℤ, pos}
use Rattle.std.proofs.Common.{Ok, refl, sym, ap, subst, ◌∙◌, arith}
use Rattle.std.specs.Prelude.{◌==◌, neg_ℤ}
use Rattle.std.specs.Char.{is_ascii_digit}
use Rattle.std.specs.List.{list_all, prefix_len}
use Rattle.std.specs.Str.Parse.{digits_value, signed_digits_value, without_leading_sign}
use Rattle.std.proofs.Math.Seq.{drop-cons}
use Rattle.std.proofs.lemmas.Bool.{and_from, and_parts, both_ways, cond-false, false_from_ne_true, le-leb, not-true}
use Rattle.std.proofs.lemmas.List.{length-drop, length-take-le, take-append-drop}
use Rattle.iges_fields.specs.declared.value.Value.TheVariants as value
use Rattle.iges_fields.specs.Delims.{Delims, are_permitted}
use Rattle.iges_fields.specs.FreeText.{begins_text, fits_64_bits, is_delimiter_of}
use Rattle.iges_fields.specs.Reading.{read_item, word_item}
use Rattle.iges_base.specs.Word.{after_spaces, are_digits, is_empty, is_integer, trim}
use Rattle.iges_base.proofs.DigitFronts.{digit_is_not}
use Rattle.iges_fields.proofs.ItemFronts.{trim_plain, unsigned_plain}
use Rattle.iges_base.proofs.Spaces.{after_spaces-other}
use Rattle.iges_base.proofs.Lists.{prefix_len-front, list_all-implies}
use Rattle.iges_fields.proofs.Steps.{item_is_word, no_H_behind, word_from, word_int}
use Rattle.iges_fields.proofs.WordKinds.{digit_mantissa}
use Rattle.iges_fields.proofs.Words.{digit_number_byte, number_byte_no_space, number_byte_no_stop, stop_no_H}

-- digits are no spaces
pub no_space_first : (t : List ℕ) (m : ℕ) → 0 < m → m ≤ length t → list_all is_ascii_digit (take m t) ≡ true → t ≡ after_spaces t
no_space_first [] m a b all = absurd (omega (arith, a, b))
no_space_first (c ∷ t) zero a b all = absurd (omega (arith, a))
no_space_first (c ∷ t) (suc m) a b all =
    sym (after_spaces-other c t (not-true _ (number_byte_no_space c
    (digit_number_byte c (and_parts (is_ascii_digit c) (list_all is_ascii_digit (take m t)) all).0))))

-- ---- the item

module _ (d : Delims) (ok : are_permitted d ≡ true) (text : List ℕ) (n : ℕ) (within : n ≤ length text) (digits : list_all is_ascii_digit (take n text) ≡ true)
    (behind : List ℕ) (behind-is : behind ≡ drop n text) (more : 1 ≤ length behind) (stop : is_delimiter_of d (get_or behind 0 0) ≡ true) where
  abbrev front : List ℕ
  front = take n text

  abbrev first : ℕ
  first = get_or behind 0 0

  behind_cons : behind ≡ first ∷ drop 1 behind
  behind_cons = drop-cons behind 0 0 (omega (arith, more))

  split : text ≡ front ++ first ∷ drop 1 behind
  split = sym (take-append-drop n text) ∙ ap (λ (t : List ℕ). front ++ t) (sym behind-is ∙ behind_cons)

  long : length front ≡ n
  long = length-take-le n text within

  no_digit : is_ascii_digit first ≡ false
  no_digit = false_from_ne_true (is_ascii_digit first) (λ e. both_ways (is_delimiter_of d first)
      (not-true _ (number_byte_no_stop d ok first (digit_number_byte first e))) stop)

  digits_end : n ≡ prefix_len is_ascii_digit text
  digits_end = sym (ap (prefix_len is_ascii_digit) split ∙ prefix_len-front is_ascii_digit front first (drop 1 behind) digits no_digit ∙ long)

  word_ends : n ≡ prefix_len (λ b. not (is_delimiter_of d b)) text
  word_ends =
      let p : ℕ → Bool = λ b. not (is_delimiter_of d b) in
      sym (ap (prefix_len p) split
      ∙ prefix_len-front p front first (drop 1 behind) (list_all-implies is_ascii_digit p
      (λ b e. number_byte_no_stop d ok b (digit_number_byte b e)) front digits) (ap not stop)
      ∙ long)

  no_text : begins_text text ≡ false
  no_text =
      no_H_behind text n digits_end (subst (λ (t : List ℕ). 1 ≤ length t) behind-is more)
      (λ e. both_ways (first == 72) (stop_no_H d ok first stop) (ap (λ (b : ℕ). b == 72) (ap (λ (t : List ℕ). get_or t 0 0) behind-is ∙ e)))

  body_is : 0 < n → text ≡ after_spaces text
  body_is some = no_space_first text n some within digits

  inside : n ≡ length text → ⊥
  inside e = let rest : length behind ≡ length text - n = ap length behind-is ∙ length-drop n text in omega (arith, e, rest, more)

  plain : (xs : List ℕ) → list_all is_ascii_digit xs ≡ true → 0 < length xs →
      (is_integer xs ≡ true) × (signed_digits_value 10 xs ≡ pos (digits_value 10 xs)) × (xs ≡ trim xs)
  plain [] all a = absurd (omega (arith, a))
  plain (c ∷ xs) all a =
      let bytes = list_all-implies is_ascii_digit _ digit_mantissa (c ∷ xs) all in
      let unsigned : without_leading_sign (c ∷ xs) ≡ c ∷ xs = unsigned_plain (c ∷ xs) bytes in
      let minus : (c == 45) ≡ false = not-true _ (digit_is_not 45 c refl (and_parts (is_ascii_digit c) (list_all is_ascii_digit xs) all).0) in (
        subst (λ (w : List ℕ). are_digits w ≡ true) (sym unsigned) (and_from (not (is_empty (c ∷ xs))) (list_all is_ascii_digit (c ∷ xs)) refl all),
        cond-false (c == 45) (neg_ℤ (pos (digits_value 10 (without_leading_sign (c ∷ xs))))) (pos (digits_value 10 (without_leading_sign (c ∷ xs)))) minus ∙ ap
            (λ (w : List ℕ). pos (digits_value 10 w)) unsigned,
        sym (trim_plain (c ∷ xs) bytes),
      )

  pub plain_item : 0 < n → digits_value 10 front < 10 ^ 18 → read_item d text ≡ Ok (value.Int (pos (digits_value 10 front)), behind)
  plain_item some few =
      let p = plain front digits (omega (arith, long, some)) in
      let limit : 10 ^ 18 ≡ 1000000000000000000 = refl in
      let fits : fits_64_bits (pos (digits_value 10 front)) ≡ true =
      and_from _ _ refl (le-leb (digits_value 10 front) 9223372036854775807 (omega (arith, few, limit))) in
      let word = word_int d text front p.0 (ap fits_64_bits p.1 ∙ fits) in
      item_is_word d text (ap begins_text (sym (body_is some)) ∙ no_text) ∙ ap (word_item d text) (sym (body_is some))
      ∙ word_from d text text n word_ends inside front behind front refl behind-is p.2 (Ok (value.Int (signed_digits_value 10 front))) word
      ∙ ap (λ (z : ℤ). Ok (value.Int z, behind)) p.1
