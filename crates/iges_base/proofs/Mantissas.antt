-- The digits and points at the front of a text, byte by byte, and what they are.
use Rattle.std.proofs.Common.{◌≡◌, inl, inr, ℕ, suc, ◌+◌, ◌-◌, ◌*◌, ◌<◌, ◌≤◌, Bool, true, false, cond, ◌&&◌, ◌||◌, List, [], ◌∷◌, length, take, drop, get_or}
use Rattle.std.proofs.Common.{refl, sym, ap, subst, ◌∙◌, arith}
use Rattle.std.specs.Prelude.{count_by, nat_le, nat_lt}
use Rattle.std.specs.Char.{is_ascii_digit}
use Rattle.std.specs.List.{list_all, list_any, prefix_len}
use Rattle.std.specs.Str.Parse.{digits_value}
use Rattle.std.proofs.lemmas.Bool.{and_parts, cond-true, cond-false, lt-ltb, le-leb, or_left, or_right, or_cases, not-true, eqb-true}
use Rattle.std.proofs.lemmas.Bool.Decides.{nat_tests}
use Rattle.std.proofs.lemmas.Int.Digits.{digits_value_more}
use Rattle.std.proofs.lemmas.List.Folds.{length-prefix_len}
use Rattle.std.proofs.lemmas.List.Sums.{count_by_more_no, count_by_more_yes, count_by-le-length, sum_by-cons, prefix_len-drop_yes}
use Rattle.std.proofs.lemmas.Str.{digit_value_digit}
use Rattle.iges_base.specs.declared.mantissa.Mantissa.{Mantissa}
use Rattle.iges_base.specs.RealParts.{is_mantissa_byte, up_to_past, IsMantissa}
use Rattle.iges_base.specs.Reals.{is_point, is_mantissa}
use Rattle.iges_base.proofs.DigitFronts.{digit_range, digit_is_not}
use Rattle.iges_base.proofs.Lists.{list_all-take_while}

-- ---- byte by byte

-- so far: `len` digits and points, and what they are
pub record IsSoFar (text : List ℕ) (len points value : ℕ) : Type 0 where
  pub within : len ≤ length text
  pub rest : len + prefix_len is_mantissa_byte (drop len text) ≡ prefix_len is_mantissa_byte text
  pub points_are : points ≡ count_by is_point (take len text)
  pub number : points ≡ 0 → value ≡ up_to_past (digits_value 10 (take len text))
  pub small : value ≤ 9223372036854775809

module _ (text : List ℕ) (len points value : ℕ) (so_far : IsSoFar text len points value) (h : len < length text) where
  abbrev byte : ℕ
  byte = get_or text len 0

  one_more : is_mantissa_byte byte ≡ true → (len + 1) + prefix_len is_mantissa_byte (drop (len + 1) text) ≡ prefix_len is_mantissa_byte text
  one_more e = omega (arith, prefix_len-drop_yes is_mantissa_byte text len 0 h e, so_far.rest)

  pub digit_more : is_ascii_digit byte ≡ true → (d next : ℕ) → d ≡ byte - 48 → next ≡ up_to_past (value * 10 + d) → IsSoFar text (len + 1) points next
  digit_more e d next d-is next-is =
      let range = digit_range byte e in
      let more = digits_value_more 10 text len h in
      let worth = digit_value_digit byte range in
      record {
        within = omega arith;
        rest = one_more (or_left (is_ascii_digit byte) (is_point byte) e);
        points_are = so_far.points_are ∙ sym (count_by_more_no is_point text len 0 h (not-true _ (digit_is_not 46 byte refl e)));
        number = λ none. let before = so_far.number none in omega (arith, before, more, worth, next-is, d-is, range.0);
        small = omega (arith, next-is);
      }

  pub point_more : byte ≡ 46 → IsSoFar text (len + 1) (points + 1) value
  point_more e = record {
    within = omega arith;
    rest = one_more (or_right (is_ascii_digit byte) (is_point byte) (subst (λ (b : ℕ). is_point b ≡ true) (sym e) refl));
    points_are = omega (arith, so_far.points_are, count_by_more_yes is_point text len 0 h (subst (λ (b : ℕ). is_point b ≡ true) (sym e) refl));
    number = λ none. absurd (omega (arith, none));
    small = so_far.small;
  }

-- ---- what they are

pub mantissa_bytes : (text : List ℕ) (m : Mantissa) → IsMantissa text m → list_all is_mantissa_byte (take m.len text) ≡ true
mantissa_bytes text m is = ap (λ (n : ℕ). list_all is_mantissa_byte (take n text)) is.len ∙ list_all-take_while is_mantissa_byte text

pub count_point : (x : ℕ) (xs : List ℕ) → count_by is_point (x ∷ xs) ≡ cond (is_point x) 1 0 + count_by is_point xs
count_point x xs = sum_by-cons (λ (b : ℕ). cond (is_point b) 1 0) x xs

one_less : (a b : ℕ) → nat_lt a b ≡ nat_lt (1 + a) (suc b)
one_less a b = grind (arith, nat_tests)

pub point_no_digit : (b : ℕ) → is_point b ≡ true → is_ascii_digit b ≡ false
point_no_digit b e = subst (λ (x : ℕ). is_ascii_digit x ≡ false) (sym (eqb-true b 46 e)) refl

-- among digits and points is a digit where not all are points
pub digit_among : (xs : List ℕ) → list_all is_mantissa_byte xs ≡ true → list_any is_ascii_digit xs ≡ nat_lt (count_by is_point xs) (length xs)
digit_among [] all = refl
digit_among (x ∷ xs) all =
    let parts = and_parts (is_mantissa_byte x) (list_all is_mantissa_byte xs) all in
    elim (or_cases (is_ascii_digit x) (is_point x) parts.0) [
      | inl e ↦
          let none : cond {A = ℕ} (is_point x) 1 0 ≡ 0 = cond-false (is_point x) 1 0 (not-true _ (digit_is_not 46 x refl e)) in
          or_left (is_ascii_digit x) (list_any is_ascii_digit xs) e
          ∙ sym (lt-ltb (count_by is_point (x ∷ xs)) (suc (length xs)) (omega (arith, count_point x xs, none, count_by-le-length is_point xs)))
      | inr e ↦
          let one : cond {A = ℕ} (is_point x) 1 0 ≡ 1 = cond-true (is_point x) 1 0 e in
          ap (λ (t : Bool). t || list_any is_ascii_digit xs) (point_no_digit x e) ∙ digit_among xs parts.1 ∙ one_less (count_by is_point xs) (length xs)
          ∙ ap (λ (n : ℕ). nat_lt n (suc (length xs))) (sym (count_point x xs ∙ ap (λ (n : ℕ). n + count_by is_point xs) one))
    ]

all_three : (a b c b' c' : Bool) → a ≡ true → b ≡ b' → c ≡ c' → (a && b && c) ≡ (b' && c')
all_three a b c b' c' e f g = ap (λ (t : Bool). t && b && c) e ∙ ap (λ (t : Bool). t && c) f ∙ ap (λ (t : Bool). b' && t) g

pub mantissa_is : (text : List ℕ) (m : Mantissa) → IsMantissa text m → is_mantissa (take m.len text) ≡ (nat_lt m.points m.len && nat_le m.points 1)
mantissa_is text m is =
    let front = take m.len text in
    let all = mantissa_bytes text m is in
    let long : length front ≡ m.len = ap (λ (n : ℕ). length (take n text)) is.len ∙ length-prefix_len is_mantissa_byte text ∙ sym is.len in
    all_three (list_all is_mantissa_byte front) (list_any is_ascii_digit front) (nat_le (count_by is_point front) 1) (nat_lt m.points m.len)
    (nat_le m.points 1) all
    (digit_among front all ∙ ap (λ (n : ℕ). nat_lt n (length front)) (sym is.points) ∙ ap (λ (n : ℕ). nat_lt m.points n) long)
    (ap (λ (n : ℕ). nat_le n 1) (sym is.points))

pub valid_if : (text : List ℕ) (m : Mantissa) → IsMantissa text m → m.points ≤ 1 → nat_lt m.points m.len ≡ is_mantissa (take m.len text)
valid_if text m is few = sym (mantissa_is text m is ∙ and_true (nat_lt m.points m.len) _ (le-leb m.points 1 few))
  where
    and_true : (a b : Bool) → b ≡ true → (a && b) ≡ a
    and_true true b e = e
    and_true false b e = refl
