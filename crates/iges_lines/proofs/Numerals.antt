-- A field that ends with the digits of the next number has that number.
use Rattle.std.proofs.Common.{◌≡◌, ◌⊎◌, inl, inr, ℕ, zero, suc, ◌+◌, ◌*◌, ◌<◌, Bool, true, false, cond, not, List, [], ◌∷◌, ◌++◌, length, drop, reverse, ℤ}
use Rattle.std.proofs.Common.{pos, neg_ℤ, Some, None, refl, sym, ap, ◌∙◌, arith, length-append}
use Rattle.std.specs.Prelude.{◌==◌}
use Rattle.std.specs.Char.{is_ascii_digit, digit_value}
use Rattle.std.specs.List.{list_all}
use Rattle.std.specs.Str.Parse.{digits_value, digits_value_after, signed_digits_value, starts_with_minus, without_leading_plus, without_leading_sign}
use Rattle.std.proofs.lemmas.Bool.{and_parts, and_from, cond-true, cond-false, not-true}
use Rattle.std.proofs.lemmas.List.{append-nil, length-reverse, reverse-append, reverse-reverse}
use Rattle.std.proofs.lemmas.List.Folds.{list_all-append}
use Rattle.std.proofs.lemmas.Option.{none-some, same_Some}
use Rattle.iges_base.proofs.Lists.{prefix_len-pass, list_all-reverse}
use Rattle.iges_base.specs.Word.{after_spaces, are_digits, column_number, integer, is_empty, is_integer, is_space, trim}
use Rattle.iges_base.proofs.Spaces.{after_spaces-other}
use Rattle.iges_base.proofs.DigitFronts.{digit_is_not}
use Rattle.iges_lines.specs.Foretold.{AreNextDigits}

AllDigits : List ℕ → Type 0
AllDigits t = list_all is_ascii_digit t ≡ true

first_digit : (n b : ℕ) (t : List ℕ) → is_ascii_digit n ≡ false → AllDigits (b ∷ t) → (b == n) ≡ false
unfolding AllDigits
first_digit n b t other all = not-true _ (digit_is_not n b other (and_parts (is_ascii_digit b) (list_all is_ascii_digit t) all).0)

-- ---- a field without its spaces

no_space : (t x : List ℕ) → 0 < length t → AllDigits t → after_spaces (t ++ x) ≡ t ++ x
no_space [] x some all = absurd (omega arith)
no_space (b ∷ t) x some all = after_spaces-other b (t ++ x) (first_digit 32 b t refl all)

after_front : (front t : List ℕ) → 0 < length t → AllDigits t → after_spaces (front ++ t) ≡ after_spaces front ++ t
after_front [] t some all = ap after_spaces (sym (append-nil t)) ∙ no_space t [] some all ∙ append-nil t
after_front (c ∷ front) t some all = by_test (after_front front t some all) (is_space c) refl
  where
    by_test : after_spaces (front ++ t) ≡ after_spaces front ++ t → (u : Bool) → is_space c ≡ u →
        after_spaces (c ∷ (front ++ t)) ≡ after_spaces (c ∷ front) ++ t
    by_test more true e =
        ap (λ (n : ℕ). drop n (c ∷ (front ++ t))) (prefix_len-pass is_space c (front ++ t) e) ∙ more
        ∙ ap (λ (x : List ℕ). x ++ t) (sym (ap (λ (n : ℕ). drop n (c ∷ front)) (prefix_len-pass is_space c front e)))
    by_test more false e = after_spaces-other c (front ++ t) e ∙ ap (λ (x : List ℕ). x ++ t) (sym (after_spaces-other c front e))

trim_front : (front t : List ℕ) → 0 < length t → AllDigits t → trim (front ++ t) ≡ after_spaces front ++ t
unfolding AllDigits
trim_front front t some all =
    let w = after_spaces front in
    ap (λ (x : List ℕ). reverse (after_spaces (reverse x))) (after_front front t some all)
    ∙ ap (λ (x : List ℕ). reverse (after_spaces x)) (reverse-append w t)
    ∙ ap reverse (no_space (reverse t) (reverse w) (omega (arith, some, length-reverse t)) (list_all-reverse is_ascii_digit t all))
    ∙ ap reverse (sym (reverse-append w t))
    ∙ reverse-reverse (w ++ t)

-- ---- a sign

-- a word that begins with w and ends with digits has a minus
HasMinus : List ℕ → Type 0
HasMinus w = (t : List ℕ) → 0 < length t → AllDigits t → starts_with_minus (w ++ t) ≡ true

-- it has none, and its digits are these and its last ones
record Unsigned (w front : List ℕ) : Type 0 where
  no_minus : (t : List ℕ) → 0 < length t → AllDigits t → starts_with_minus (w ++ t) ≡ false
  digits_are : (t : List ℕ) → 0 < length t → AllDigits t → without_leading_plus (w ++ t) ≡ front ++ t

only_digits : Unsigned [] []
only_digits = record {
  no_minus = λ t some all. minus t some all;
  digits_are = λ t some all. plus t some all;
}
  where
    minus : (t : List ℕ) → 0 < length t → AllDigits t → starts_with_minus t ≡ false
    minus [] some all = absurd (omega arith)
    minus (b ∷ t) some all = first_digit 45 b t refl all

    plus : (t : List ℕ) → 0 < length t → AllDigits t → without_leading_plus t ≡ t
    plus [] some all = absurd (omega arith)
    plus (b ∷ t) some all = ap (λ (n : ℕ). drop n (b ∷ t)) (cond-false (b == 43) 1 0 (first_digit 43 b t refl all))

signed : (w : List ℕ) → HasMinus w ⊎ ((front : List ℕ) × Unsigned w front)
unfolding HasMinus
signed [] = inr ([], only_digits)
signed (x ∷ w) = by_minus (x == 45) refl
  where
    by_plus : (u : Bool) → (x == 45) ≡ false → (x == 43) ≡ u → (front : List ℕ) × Unsigned (x ∷ w) front
    by_plus true other e = (
      w,
      record {
        no_minus = λ t some all. other;
        digits_are =
            λ t some all. ap (λ (n : ℕ). drop n (x ∷ (w ++ t))) (cond-true (x == 43) 1 0 e);
      },
    )
    by_plus false other e = (
      x ∷ w,
      record {
        no_minus = λ t some all. other;
        digits_are =
            λ t some all. ap (λ (n : ℕ). drop n (x ∷ (w ++ t))) (cond-false (x == 43) 1 0 e);
      },
    )

    by_minus : (u : Bool) → (x == 45) ≡ u → HasMinus (x ∷ w) ⊎ ((front : List ℕ) × Unsigned (x ∷ w) front)
    by_minus true e = inl (λ t some all. e)
    by_minus false e = inr (by_plus (x == 43) e refl)

-- ---- the number

not_empty : (x : List ℕ) → 0 < length x → is_empty x ≡ false
not_empty [] h = absurd (omega arith)
not_empty (b ∷ x) h = refl

longer : (w t : List ℕ) → 0 < length t → 0 < length (w ++ t)
longer w t h = omega (arith, h, length-append w t)

value_append : (n : ℕ) (x y : List ℕ) → digits_value_after 10 n (x ++ y) ≡ digits_value_after 10 (digits_value_after 10 n x) y
value_append n [] y = refl
value_append n (c ∷ x) y = value_append (n * 10 + digit_value c) x y

if_some : {X : Type 0} (b : Bool) (x y : X) → cond b (Some x) None ≡ Some y → (b ≡ true) × (x ≡ y)
if_some true x y e = (refl, same_Some x y e)
if_some false x y e = absurd (none-some y e)

pos_same : (m n : ℕ) → pos m ≡ pos n → m ≡ n
pos_same m n e = cc

not_negative : (v n : ℕ) → 0 < n → neg_ℤ (pos v) ≡ pos n → ⊥
not_negative zero n some e = let none : 0 ≡ n = pos_same 0 n e in absurd (omega (arith, none, some))
not_negative (suc v) n some e = absurd cc

integer_is : (w front t : List ℕ) → Unsigned w front → 0 < length t → AllDigits t →
    integer (w ++ t) ≡ cond (are_digits (front ++ t)) (Some (pos (digits_value 10 (front ++ t)))) None
integer_is w front t u some all =
    let minus = u.no_minus t some all in
    let digits : without_leading_sign (w ++ t) ≡ front ++ t =
    cond-false (starts_with_minus (w ++ t)) (drop 1 (w ++ t)) (without_leading_plus (w ++ t)) minus ∙ u.digits_are t some all in
    ap (λ (x : List ℕ). cond (are_digits x) (Some (signed_digits_value 10 (w ++ t))) None) digits
    ∙ ap (λ (z : ℤ). cond (are_digits (front ++ t)) (Some z) None) (
    cond-false (starts_with_minus (w ++ t)) (neg_ℤ (pos (digits_value 10 (without_leading_sign (w ++ t)))))
    (pos (digits_value 10 (without_leading_sign (w ++ t)))) minus
    ∙ ap (λ (x : List ℕ). pos (digits_value 10 x)) digits
    )

next_integer : (w t next : List ℕ) (n : ℕ) → AreNextDigits t next → 0 < n → integer (w ++ t) ≡ Some (pos n) → integer (w ++ next) ≡ Some (pos (n + 1))
unfolding HasMinus AllDigits
next_integer w t next n h some e =
    elim (signed w) [
      | inl minus ↦
          let z = (if_some (is_integer (w ++ t)) (signed_digits_value 10 (w ++ t)) (pos n) e).1 in
          let value = cond-true (starts_with_minus (w ++ t)) (neg_ℤ (pos (digits_value 10 (without_leading_sign (w ++ t)))))
          (pos (digits_value 10 (without_leading_sign (w ++ t)))) (minus t h.some h.all) in
          absurd (not_negative _ n some (sym value ∙ z))
      | inr k ↦
          let front = k.0 in
          let was = if_some (are_digits (front ++ t)) (pos (digits_value 10 (front ++ t))) (pos n) (sym (integer_is w front t k.1 h.some h.all) ∙ e) in
          let n-is : digits_value 10 (front ++ t) ≡ n = pos_same _ _ was.1 in
          let old = (and_parts (not (is_empty (front ++ t))) (list_all is_ascii_digit (front ++ t)) was.0).1 in
          let front_all = (and_parts (list_all is_ascii_digit front) (list_all is_ascii_digit t) (sym (list_all-append is_ascii_digit front t) ∙ old)).0 in
          let all : list_all is_ascii_digit (front ++ next) ≡ true = list_all-append is_ascii_digit front next ∙ and_from _ _ front_all h.next_all in
          let good : are_digits (front ++ next) ≡ true = and_from _ _ (ap not (not_empty (front ++ next) (longer front next h.next_some))) all in
          let value : digits_value 10 (front ++ next) ≡ n + 1 =
          value_append 0 front next ∙ h.value (digits_value 10 front) ∙ ap (λ (m : ℕ). m + 1) (sym (value_append 0 front t) ∙ n-is) in
          integer_is w front next k.1 h.next_some h.next_all ∙ cond-true (are_digits (front ++ next)) _ _ good ∙ ap (λ (m : ℕ). Some (pos m)) value
    ]

field_is : (front t : List ℕ) → 0 < length t → AllDigits t → column_number (front ++ t) ≡ integer (after_spaces front ++ t)
field_is front t some all =
    ap (λ (x : List ℕ). cond (is_empty x) (Some (pos 0)) (integer x)) (trim_front front t some all)
    ∙ cond-false (is_empty (after_spaces front ++ t)) _ _ (not_empty (after_spaces front ++ t) (longer (after_spaces front) t some))

pub next_number : (front t next : List ℕ) (n : ℕ) → AreNextDigits t next → 0 < n → column_number (front ++ t) ≡ Some (pos n) →
    column_number (front ++ next) ≡ Some (pos (n + 1))
unfolding AllDigits
next_number front t next n h some e =
    field_is front next h.next_some h.next_all ∙ next_integer (after_spaces front) t next n h some (sym (field_is front t h.some h.all) ∙ e)
