-- The mantissa at the front of an item, and where its word or its text begins and ends.
use Rattle.std.proofs.Common.{◌≡◌, inl, inr, ℕ, zero, suc, ◌+◌, ◌-◌, ◌<◌, ◌≤◌, min, Bool, true, false, cond, not, List, [], ◌∷◌, ◌++◌, length, take, drop}
use Rattle.std.proofs.Common.{get_or, refl, sym, ap, subst, ◌∙◌, arith}
use Rattle.std.specs.Prelude.{count_by, ◌==◌}
use Rattle.std.specs.Char.{is_ascii_digit}
use Rattle.std.specs.List.{list_all, prefix_len}
use Rattle.std.specs.Str.Parse.{digits_value, without_leading_sign, without_leading_plus}
use Rattle.std.proofs.lemmas.Bool.{and_parts, or_cases, cases_Bool, cond-false, both_ways, ne_eqb, not-true, and_right}
use Rattle.std.proofs.lemmas.List.{append-nil, take_all, take-append-drop, take-take}
use Rattle.std.proofs.lemmas.List.Folds.{length-prefix_len}
use Rattle.iges_base.specs.declared.mantissa.Mantissa.{Mantissa}
use Rattle.iges_fields.specs.Delims.{Delims, are_permitted}
use Rattle.iges_base.specs.RealParts.{is_mantissa_byte, up_to_past, IsMantissa}
use Rattle.iges_fields.specs.FreeText.{is_delimiter_of, begins_with, begins_text, behind_H, text_size}
use Rattle.iges_base.specs.Word.{is_empty, is_space, trim}
use Rattle.iges_base.specs.Reals.{is_point}
use Rattle.iges_base.proofs.Spaces.{trim-word}
use Rattle.iges_base.proofs.Lists.{prefix_len-pass, prefix_len-stop, list_all-implies}
use Rattle.iges_base.proofs.Mantissas.{count_point, mantissa_bytes, point_no_digit}
use Rattle.iges_fields.proofs.Steps.{begins_is, no_digits, no_byte_behind, no_H_behind, text_front_from}
use Rattle.iges_base.proofs.DigitFronts.{digit_is_not}
use Rattle.iges_fields.proofs.Words.{mantissa_byte, number_byte_no_space, number_byte_no_stop}
use Rattle.iges_fields.proofs.WordKinds.{digit_mantissa, only_digits}

-- ---- fronts

prefix_len-over : (p : ℕ → Bool) (xs ys : List ℕ) → list_all p xs ≡ true → prefix_len p (xs ++ ys) ≡ length xs + prefix_len p ys
prefix_len-over p [] ys all = omega arith
prefix_len-over p (x ∷ xs) ys all =
    let parts = and_parts (p x) (list_all p xs) all in
    omega (arith, prefix_len-pass p x (xs ++ ys) parts.0, prefix_len-over p xs ys parts.1)

prefix_len-implies : (p q : ℕ → Bool) → ((b : ℕ) → p b ≡ true → q b ≡ true) → (xs : List ℕ) → prefix_len p xs ≤ prefix_len q xs
prefix_len-implies p q imp [] = omega arith
prefix_len-implies p q imp (x ∷ xs) =
    elim (cases_Bool (p x)) [
      | inl e ↦ omega (arith, prefix_len-pass p x xs e, prefix_len-pass q x xs (imp x e), prefix_len-implies p q imp xs)
      | inr e ↦ omega (arith, prefix_len-stop p x xs e)
    ]

prefix_len-take : (p : ℕ → Bool) (n : ℕ) (xs : List ℕ) → prefix_len p (take n xs) ≡ min n (prefix_len p xs)
prefix_len-take p zero xs = omega arith
prefix_len-take p (suc n) [] = omega arith
prefix_len-take p (suc n) (x ∷ xs) =
    elim (cases_Bool (p x)) [
      | inl e ↦ omega (arith, prefix_len-pass p x (take n xs) e, prefix_len-pass p x xs e, prefix_len-take p n xs)
      | inr e ↦ omega (arith, prefix_len-stop p x (take n xs) e, prefix_len-stop p x xs e)
    ]

-- ---- a mantissa's bytes

mantissa_is_not : (n b : ℕ) → is_mantissa_byte n ≡ false → is_mantissa_byte b ≡ true → (b == n) ≡ false
mantissa_is_not n b none e = ne_eqb b n (λ is. both_ways (is_mantissa_byte n) none (subst (λ (x : ℕ). is_mantissa_byte x ≡ true) is e))

pub unsigned_plain : (xs : List ℕ) → list_all is_mantissa_byte xs ≡ true → without_leading_sign xs ≡ xs
unsigned_plain [] all = refl
unsigned_plain (x ∷ xs) all =
    let e = (and_parts (is_mantissa_byte x) (list_all is_mantissa_byte xs) all).0 in
    cond-false (x == 45) xs (without_leading_plus (x ∷ xs)) (mantissa_is_not 45 x refl e) ∙ ap (λ (n : ℕ). drop n (x ∷ xs))
    (cond-false (x == 43) 1 0 (mantissa_is_not 43 x refl e))

pub trim_plain : (xs : List ℕ) → list_all is_mantissa_byte xs ≡ true → trim xs ≡ xs
trim_plain xs all =
    ap trim (sym (append-nil xs))
    ∙ trim-word 0 0 xs (list_all-implies is_mantissa_byte (λ b. not (is_space b)) (λ b e. number_byte_no_space b (mantissa_byte b e)) xs all)

module _ (body : List ℕ) (m : Mantissa) (is : IsMantissa body m) where
  long : length (take m.len body) ≡ m.len
  long = ap (λ (n : ℕ). length (take n body)) is.len ∙ length-prefix_len is_mantissa_byte body ∙ sym is.len

  -- the front of a body whose mantissa is within it has the same
  pub front_mantissa : (n : ℕ) (front : List ℕ) → m.len ≤ n → front ≡ take n body → IsMantissa front m
  front_mantissa n front within front-is =
      let same : take m.len front ≡ take m.len body = ap (take m.len) front-is ∙ take-take m.len n body within in
      record {
        len = omega (arith, within, is.len, ap (prefix_len is_mantissa_byte) front-is, prefix_len-take is_mantissa_byte n body);
        points = is.points ∙ ap (count_by is_point) (sym same);
        value = λ none. is.value none ∙ ap (λ (t : List ℕ). up_to_past (digits_value 10 t)) (sym same);
      }

  module _ (d : Delims) (ok : are_permitted d ≡ true) where
    pub end_behind : (behind : List ℕ) → behind ≡ drop m.len body →
        m.len + prefix_len (λ b. not (is_delimiter_of d b)) behind ≡ prefix_len (λ b. not (is_delimiter_of d b)) body
    end_behind behind behind-is =
        let p : ℕ → Bool = λ b. not (is_delimiter_of d b) in
        let over =
        prefix_len-over p (take m.len body) (drop m.len body)
        (list_all-implies is_mantissa_byte p (λ b e. number_byte_no_stop d ok b (mantissa_byte b e)) (take m.len body) (mantissa_bytes body m is)) in
        omega (arith, over, long, ap (prefix_len p) behind-is, ap (prefix_len p) (take-append-drop m.len body))

  -- where all of it is the mantissa
  module _ (all : m.len ≡ length body) where
    bytes : list_all is_mantissa_byte body ≡ true
    bytes = ap (list_all is_mantissa_byte) (sym (ap (λ (n : ℕ). take n body) all ∙ take_all (length body) body (omega arith))) ∙ mantissa_bytes body m is

    pub plain_unsigned : body ≡ without_leading_sign body
    plain_unsigned = sym (unsigned_plain body bytes)

    pub plain_trimmed : body ≡ trim body
    plain_trimmed = sym (trim_plain body bytes)

  -- ---- digits and H

  behind : List ℕ
  behind = drop m.len body

  behind_none : prefix_len is_mantissa_byte (drop m.len body) ≡ 0
  behind_none =
      omega (
        arith,
        is.len,
        long,
        prefix_len-over is_mantissa_byte (take m.len body) (drop m.len body) (mantissa_bytes body m is),
        ap (prefix_len is_mantissa_byte) (take-append-drop m.len body),
      )

  digits_front : m.points ≡ 0 → m.len ≡ prefix_len is_ascii_digit body
  digits_front none =
      let digits = only_digits (take m.len body) (mantissa_bytes body m is) (sym is.points ∙ none) in
      let few = prefix_len-implies is_ascii_digit is_mantissa_byte digit_mantissa (drop m.len body) in
      omega (
        arith,
        few,
        behind_none,
        long,
        prefix_len-over is_ascii_digit (take m.len body) (drop m.len body) digits,
        ap (prefix_len is_ascii_digit) (take-append-drop m.len body),
      )

  no_H_at_point : (xs ys : List ℕ) → list_all is_mantissa_byte xs ≡ true → 0 < count_by is_point xs
      → begins_with (λ b. b == 72) (drop (prefix_len is_ascii_digit (xs ++ ys)) (xs ++ ys)) ≡ false
  no_H_at_point [] ys all some = absurd (omega (arith, some))
  no_H_at_point (x ∷ xs) ys all some =
      let parts = and_parts (is_mantissa_byte x) (list_all is_mantissa_byte xs) all in
      elim (or_cases (is_ascii_digit x) (is_point x) parts.0) [
        | inl e ↦
            let none : cond {A = ℕ} (is_point x) 1 0 ≡ 0 = cond-false (is_point x) 1 0 (not-true _ (digit_is_not 46 x refl e)) in
            ap (λ (n : ℕ). begins_with (λ b. b == 72) (drop n (x ∷ xs ++ ys))) (prefix_len-pass is_ascii_digit x (xs ++ ys) e)
            ∙ no_H_at_point xs ys parts.1 (omega (arith, some, none, count_point x xs))
        | inr e ↦
            ap (λ (n : ℕ). begins_with (λ b. b == 72) (drop n (x ∷ xs ++ ys))) (prefix_len-stop is_ascii_digit x (xs ++ ys) (point_no_digit x e))
            ∙ mantissa_is_not 72 x refl parts.0
      ]

  pub no_text_with_points : 0 < m.points → begins_text body ≡ false
  no_text_with_points some =
      begins_is body (prefix_len is_ascii_digit body) refl
      ∙ and_right (not (is_empty (take (prefix_len is_ascii_digit body) body))) _
      (ap (λ (t : List ℕ). begins_with (λ b. b == 72) (drop (prefix_len is_ascii_digit t) t)) (sym (take-append-drop m.len body))
      ∙ no_H_at_point (take m.len body) (drop m.len body) (mantissa_bytes body m is) (omega (arith, some, is.points)))

  pub no_text_without_digits : m.len ≡ 0 → begins_text body ≡ false
  no_text_without_digits none =
      no_digits body (prefix_len is_ascii_digit body) refl (omega (arith, none, is.len, prefix_len-implies is_ascii_digit is_mantissa_byte digit_mantissa body))

  module _ (none : m.points ≡ 0) (rest : List ℕ) (rest-is : rest ≡ drop m.len body) where
    pub no_text_at_end : length rest < 1 → begins_text body ≡ false
    no_text_at_end h = no_byte_behind body m.len (digits_front none) (subst (λ (x : List ℕ). length x < 1) rest-is h)

    pub no_text_without_H : 1 ≤ length rest → (get_or rest 0 0 ≡ 72 → ⊥) → begins_text body ≡ false
    no_text_without_H h other =
        no_H_behind body m.len (digits_front none) (subst (λ (x : List ℕ). 1 ≤ length x) rest-is h) (λ e. other (ap (λ (t : List ℕ). get_or t 0 0) rest-is ∙ e))

    pub text_begins : 0 < m.len → 1 ≤ length rest → get_or rest 0 0 ≡ 72
        → (begins_text body ≡ true) × (take (length rest - 1) (drop 1 rest) ≡ behind_H body) × (m.value ≡ up_to_past (text_size body))
    text_begins some h H =
        let f = text_front_from body m.len (digits_front none) (take m.len body) rest some refl rest-is h H in
        (f.begins, f.content_is, is.value none ∙ ap (λ (t : List ℕ). up_to_past (digits_value 10 t)) f.digits_are)
