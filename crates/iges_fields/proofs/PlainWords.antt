-- Words without spaces: their parts, and what is read of them.
use Rattle.std.proofs.Common.{◌≡◌, ℕ, zero, suc, ◌+◌, ◌-◌, ◌^◌, ◌<◌, ◌≤◌, true, false, cond, ◌&&◌, List, [], ◌∷◌, ◌++◌, length, take, drop}
use Rattle.std.proofs.Common.{get_or, ℤ, Some, None, Option, Ok, refl, sym, ap, ◌∙◌, append_assoc, arith, length-append}
use Rattle.std.specs.Prelude.{IfSome, count_by, nat_le}
use Rattle.std.specs.Char.{is_ascii_digit}
use Rattle.std.specs.List.{list_all, list_any}
use Rattle.std.specs.Str.Parse.{digits_value, signed_digits_value, without_leading_sign}
use Rattle.std.proofs.Math.Seq.{drop-cons}
use Rattle.std.proofs.lemmas.Bool.{and_from, and_parts, both_ways, cond-true, cond-false, false_from_ne_true, le-leb, lt-ltb, not-true, or_right}
use Rattle.std.proofs.lemmas.List.{append-nil, take_at, take-append-drop, length-take-le, length-drop}
use Rattle.std.proofs.lemmas.List.Folds.{list_all-append, list_any-append}
use Rattle.iges_fields.specs.declared.value.Value.{Value}
use Rattle.iges_fields.specs.declared.value.Value.TheVariants as value
use Rattle.iges_fields.specs.declared.fault.FieldFault.{FieldFault}
use Rattle.iges_base.specs.declared.leading_digits.LeadingDigits.{LeadingDigits}
use Rattle.iges_fields.specs.declared.plain_word.PlainWord.{PlainWord}
use Rattle.iges_fields.specs.Delims.{Delims, are_permitted}
use Rattle.iges_fields.specs.FreeText.{Spells, fits_64_bits, item_fault}
use Rattle.iges_base.specs.FrontDigits.{AreLeadingDigits}
use Rattle.iges_fields.specs.Fronts.{IsPlainFront, value_of}
use Rattle.iges_fields.specs.Reading.{good_item, read_at, unless_fault}
use Rattle.iges_base.specs.Word.{after_spaces, is_integer, spaces}
use Rattle.iges_base.specs.RealParts.{is_mantissa_byte, is_power, up_to_past}
use Rattle.iges_base.specs.Reals.{is_exponent_letter, is_mantissa, is_point, is_real}
use Rattle.iges_fields.proofs.Again.{item_again}
use Rattle.iges_base.proofs.Mantissas.{count_point, digit_among}
use Rattle.iges_base.proofs.Signed.{front_stop, front_unsigned, other_is, some_digits, unsigned_within}
use Rattle.iges_base.proofs.Spaces.{after_spaces-is}
use Rattle.iges_fields.proofs.WordKinds.{digit_mantissa, mantissa_no_letter, no_points, plain_real_is, real_behind}
use Rattle.iges_base.proofs.DigitFronts.{digit_is_not}
use Rattle.iges_base.proofs.Lists.{list_all-implies}

-- ---- integers

module _ (word : List ℕ) (ds : LeadingDigits) (are : AreLeadingDigits (without_leading_sign word) ds) (all : ds.len ≡ length (without_leading_sign word)) where
  whole : take ds.len (without_leading_sign word) ≡ without_leading_sign word
  whole = ap (λ (n : ℕ). take n (without_leading_sign word)) all ∙
      (ap (take (length (without_leading_sign word))) (sym (append-nil (without_leading_sign word))) ∙ take_at (without_leading_sign word) []
      (length (without_leading_sign word)) refl)

  pub word_integer : 0 < ds.len → is_integer word ≡ true
  word_integer some = some_digits (without_leading_sign word) (omega (arith, some, all)) (ap (list_all is_ascii_digit) (sym whole) ∙ are.all)

  pub word_number : ds.value ≡ up_to_past (digits_value 10 (without_leading_sign word))
  word_number =
      let limit : 10 ^ 18 ≡ 1000000000000000000 = refl in
      let is : ds.value ≡ digits_value 10 (without_leading_sign word) = are.value ∙ ap (digits_value 10) whole in
      omega (arith, is, are.few, limit)

pub spells_whole : (word : List ℕ) (n : ℤ) → is_integer word ≡ true → fits_64_bits (signed_digits_value 10 word) ≡ true → n ≡ signed_digits_value 10 word →
    Spells (value.Int n) word
spells_whole word n i fits is =
    (cond-true (is_integer word) (Some (signed_digits_value 10 word)) None i ∙ ap (λ (z : ℤ). Some z) (sym is), ap fits_64_bits is ∙ fits)

-- ---- reals

one_point : (a b : List ℕ) → list_all is_ascii_digit a ≡ true → list_all is_ascii_digit b ≡ true → count_by is_point (a ++ 46 ∷ b) ≡ 1
one_point [] b da db = omega (arith, count_point 46 b, no_points b db)
one_point (x ∷ a) b da db =
    let parts = and_parts (is_ascii_digit x) (list_all is_ascii_digit a) da in
    let none : cond {A = ℕ} (is_point x) 1 0 ≡ 0 = cond-false (is_point x) 1 0 (not-true _ (digit_is_not 46 x refl parts.0)) in
    omega (arith, count_point x (a ++ 46 ∷ b), none, one_point a b parts.1 db)

module _ (a b : List ℕ) (da : list_all is_ascii_digit a ≡ true) (db : list_all is_ascii_digit b ≡ true) (some : 0 < length a + length b) where
  abbrev front : List ℕ
  front = a ++ 46 ∷ b

  bytes : list_all is_mantissa_byte front ≡ true
  bytes =
      list_all-append is_mantissa_byte a (46 ∷ b)
      ∙ and_from _ _ (list_all-implies is_ascii_digit is_mantissa_byte digit_mantissa a da)
      (list_all-implies is_ascii_digit is_mantissa_byte digit_mantissa b db)

  good : is_mantissa front ≡ true
  good =
      let one = one_point a b da db in
      and_from (list_all is_mantissa_byte front && list_any is_ascii_digit front) (nat_le (count_by is_point front) 1)
      (and_from (list_all is_mantissa_byte front) (list_any is_ascii_digit front) bytes
      (digit_among front bytes ∙ lt-ltb (count_by is_point front) (length front) (omega (arith, one, some, length-append a (46 ∷ b)))))
      (le-leb (count_by is_point front) 1 (omega (arith, one)))

  point : list_any is_point front ≡ true
  point = list_any-append is_point a (46 ∷ b) ∙ or_right (list_any is_point a) (list_any is_point (46 ∷ b)) refl

  pub real_parts_are : (word p : List ℕ) → without_leading_sign word ≡ front ++ p → is_power p ≡ true → is_real word ≡ true
  real_parts_are word [] split power =
      let u-is : without_leading_sign word ≡ front = split ∙ append-nil front in
      plain_real_is word (ap (list_all is_mantissa_byte) u-is ∙ bytes) ∙ ap (λ (u : List ℕ). is_mantissa u && list_any is_point u) u-is ∙ and_from
      (is_mantissa front) (list_any is_point front) good point
  real_parts_are word (x ∷ ys) split power =
      let letter = and_parts (is_exponent_letter x) (is_integer ys) power in
      let stop : is_mantissa_byte x ≡ false = false_from_ne_true (is_mantissa_byte x)
      (λ h. both_ways (is_exponent_letter x) (not-true _ (mantissa_no_letter x h)) letter.0) in
      real_behind word front x ys split bytes stop ∙ and_from (is_mantissa front) _ good power

-- a real's parts, each behind the other
module _ (body : List ℕ) (n : ℕ) (after : List ℕ) (digits : list_all is_ascii_digit (take n (without_leading_sign body)) ≡ true)
    (after-is : drop n (without_leading_sign body) ≡ 46 ∷ after)
    (part : ℕ) (part_within : part ≤ length after) (part_digits : list_all is_ascii_digit (take part after) ≡ true) (power : List ℕ)
    (power-is : power ≡ drop part after)
    (more : ℕ) (good_power : is_power (take more power) ≡ true) (rest : List ℕ) (rest-is : rest ≡ drop more power) where
  abbrev u : List ℕ
  u = without_leading_sign body

  abbrev w : List ℕ
  w = (take n u ++ 46 ∷ take part after) ++ take more power

  u-split : u ≡ w ++ rest
  u-split =
      sym (take-append-drop n u)
      ∙ ap (λ (t : List ℕ). take n u ++ t) (after-is ∙ ap (λ (t : List ℕ). 46 ∷ t)
      (sym (take-append-drop part after) ∙ ap (λ (t : List ℕ). take part after ++ t)
      (sym power-is ∙ sym (take-append-drop more power) ∙ ap (λ (t : List ℕ). take more power ++ t) (sym rest-is))))
      ∙ sym (append_assoc (take n u) (46 ∷ take part after) (take more power ++ rest))
      ∙ sym (append_assoc (take n u ++ 46 ∷ take part after) (take more power) rest)

  pub real_within : length rest + 1 ≤ length body
  real_within = omega (
    arith,
    ap length u-split,
    length-append w rest,
    length-append (take n u ++ 46 ∷ take part after) (take more power),
    length-append (take n u) (46 ∷ take part after),
    unsigned_within body,
  )

  pub real_stop : 1 ≤ length rest → get_or body (length body - length rest) 0 ≡ get_or rest 0 0
  real_stop some = front_stop body w rest u-split some (omega (arith, real_within))

  some_part : (n ≡ 0 → part ≡ 0 → ⊥) → 0 < length (take n u) + length (take part after)
  some_part some = by n part refl refl
    where
      n_within : 0 < n → n ≤ length u
      n_within h = omega (arith, ap length after-is, length-drop n u)

      by : (k m : ℕ) → k ≡ n → m ≡ part → 0 < length (take n u) + length (take part after)
      by zero zero e f = absurd (some (sym e) (sym f))
      by (suc k) m e f = omega (arith, e, ap length after-is, length-drop n u, length-take-le n u (n_within (omega (arith, e))))
      by zero (suc m) e f = omega (arith, f, length-take-le part after part_within)

  pub real_is : (n ≡ 0 → part ≡ 0 → ⊥) → is_real (take (length body - length rest) body) ≡ true
  real_is some =
      real_parts_are (take n u) (take part after) digits part_digits (some_part some) (take (length body - length rest) body) (take more power)
      (front_unsigned body w rest u-split) good_power

-- digits are no sign
pub no_sign_first : (t : List ℕ) (n : ℕ) → 0 < n → n ≤ length t → list_all is_ascii_digit (take n t) ≡ true → t ≡ without_leading_sign t
no_sign_first [] n some within all = refl
no_sign_first (b ∷ t) zero some within all = absurd (omega (arith, some))
no_sign_first (b ∷ t) (suc n) some within all =
    let digit = (and_parts (is_ascii_digit b) (list_all is_ascii_digit (take n t)) all).0 in
    sym (other_is b t (not-true _ (digit_is_not 45 b refl digit)) (not-true _ (digit_is_not 43 b refl digit)))

-- ---- what is read

module _ (d : Delims) (ok : are_permitted d ≡ true) (at : ℕ) (text body : List ℕ) (body-is : body ≡ after_spaces text) (kind : PlainWord) (len : ℕ)
    (is : IsPlainFront d body kind len) where
  abbrev word : List ℕ
  word = take len body

  abbrev x : ℕ
  x = get_or body len 0

  abbrev rest : List ℕ
  rest = drop (suc len) body

  behind-is : drop len body ≡ x ∷ rest
  behind-is = drop-cons body len 0 is.within

  by_item : (item : List ℕ) → text ≡ item ++ x ∷ rest → (item_fault d (item ++ x ∷ rest) ≡ None) ×
      (good_item d (item ++ x ∷ rest) ≡ (value_of kind word, x ∷ rest))
      → read_at d at text ≡ Ok (value_of kind word, x ∷ rest)
  unfolding read_at
  by_item item text-is reads =
      ap (λ (t : List ℕ). unless_fault at (good_item d t) (item_fault d t)) text-is
      ∙ ap (λ (o : Option FieldFault). unless_fault at (good_item d (item ++ x ∷ rest)) o) reads.0
      ∙ ap (λ (y : Value × List ℕ). Ok y) reads.1

  pub front_reads : (behind : List ℕ) → behind ≡ drop len body → read_at d at text ≡ Ok (value_of kind word, behind)
  front_reads behind behind-eq =
      let a = after_spaces-is text in
      let item = spaces a.0 ++ word ++ spaces 0 in
      let split : body ≡ word ++ x ∷ rest = sym (take-append-drop len body) ∙ ap (λ (t : List ℕ). word ++ t) behind-is in
      let text-is : text ≡ item ++ x ∷ rest =
      a.1 ∙ ap (λ (t : List ℕ). spaces a.0 ++ t) (sym body-is ∙ split) ∙ sym (append_assoc (spaces a.0) word (x ∷ rest))
      ∙ ap (λ (t : List ℕ). t ++ x ∷ rest) (sym (append-nil (spaces a.0 ++ word))) in
      by_item item text-is (item_again d ok x rest is.stop item (value_of kind word) (a.0, 0, word, is.spells, refl))
      ∙ ap (λ (t : List ℕ). Ok (value_of kind word, t)) (sym (behind-eq ∙ behind-is))

pub also : (P : ℕ → Type 0) (Q : Type 0) (o : Option ℕ) → IfSome o P → Q → IfSome o (λ n. P n × Q)
also P Q None h q = tt
also P Q (Some n) h q = (h, q)
