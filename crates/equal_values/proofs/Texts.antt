-- Canonical texts: what they tell, and of what.
use Rattle.std.proofs.Common.{◌≡◌, ◌⊎◌, inl, inr, ℕ, zero, suc, ◌+◌, ◌-◌, ◌*◌, ◌^◌, ◌<◌, ◌≤◌, Bool, true, false, cond, List, [], ◌∷◌, ◌++◌, length, drop, get_or, reverse}
use Rattle.std.proofs.Common.{refl, sym, ap, ◌∙◌, arith, length-append}
use Rattle.std.specs.Prelude.{IsFalse, nat_le, take_while}
use Rattle.std.specs.Char.{is_ascii_digit}
use Rattle.std.specs.Fmt.{decimal, signed_decimal}
use Rattle.std.specs.List.{prefix_len}
use Rattle.std.specs.Str.Parse.{starts_with_minus, without_leading_sign}
use Rattle.std.proofs.lemmas.Bool.{cases_Bool, both_ways, le-leb, leb-true, cond-true, cond-false}
use Rattle.std.proofs.lemmas.Fmt.{decimal_injective}
use Rattle.std.proofs.Math.Nat.{pow-succ'}
use Rattle.std.proofs.lemmas.List.{drop_at, length-drop}
use Rattle.std.proofs.lemmas.List.Folds.{length-prefix_len}
use Rattle.std.proofs.lemmas.List.Sums.{prefix_len-le-length}
use Rattle.iges_fields.specs.declared.value.Value.{Value}
use Rattle.iges_fields.specs.declared.value.Value.TheVariants as value
use Rattle.iges_base.proofs.Lists.{list_all-take_while, list_all-both, list_all-drop, list_all-reverse, take_while-front}
use Rattle.equal_values.specs.Spelled.{whole, fraction, digits, mantissa, exponent, power, is_far, raised, behind_whole}
use Rattle.equal_values.specs.Equal.{AreEqualWords, AreSameNumber, AreEqualValues, IsNumber}
use Rattle.equal_values.specs.Canonical.{is_zero, after_zeros, significant, scale, exponent_text, number_text, word_text, canonical}
use Rattle.equal_values.proofs.Zeros.{AreDigits}
use Rattle.equal_values.proofs.Scales.{zero_if_none, none_if_zero, same_scaled, same_digits}

pub digits_are : (word : List ℕ) → AreDigits (digits word)
digits_are word = list_all-both is_ascii_digit (whole word) (fraction word) (list_all-take_while is_ascii_digit (without_leading_sign word))
    (list_all-take_while is_ascii_digit (behind_whole word))

-- ---- lengths

shorter : (n : ℕ) (text : List ℕ) → length (drop n text) ≤ length text
shorter n text = omega (arith, length-drop n text)

front_short : (text : List ℕ) → length (take_while is_ascii_digit text) ≤ length text
front_short text = omega (arith, length-prefix_len is_ascii_digit text, prefix_len-le-length is_ascii_digit text)

unsigned_short : (b : Bool) (n : ℕ) (word : List ℕ) → length (cond b (drop 1 word) (drop n word)) ≤ length word
unsigned_short true n word = shorter 1 word
unsigned_short false n word = shorter n word

-- a word has no fewer bytes than digits
digits_short : (word : List ℕ) → length (whole word) + length (fraction word) ≤ length word
digits_short word =
    let u = without_leading_sign word in
    let sign : length (without_leading_sign word) ≤ length word = unsigned_short (starts_with_minus word) _ word in
    let front = front_short u in
    let rest : length (drop (length (whole word)) u) ≡ length u - length (whole word) = length-drop (length (whole word)) u in
    let point : length (behind_whole word) ≤ length (drop (length (whole word)) u) = shorter _ (drop (length (whole word)) u) in
    let back : length (fraction word) ≤ length (behind_whole word) = front_short (behind_whole word) in
    omega (arith, sign, front, rest, point, back)

pub record IsNear (word : List ℕ) : Type 0 where
  pub low : length (fraction word) < raised word
  pub scale_is : scale word + length (fraction word) ≡ raised word + length (after_zeros (digits word))
  pub small : scale word < 2 ^ 63
  pub few : raised word + length (after_zeros (digits word)) < 2 ^ 64

raised_within : (b : Bool) (p n : ℕ) → p + n < 2 ^ 62 → (n < cond b (2 ^ 62 - p) (2 ^ 62 + p)) × (cond b (2 ^ 62 - p) (2 ^ 62 + p) + n < 2 ^ 63)
raised_within true p n h = (omega (arith, h), omega (arith, h))
raised_within false p n h = (omega (arith, h), omega (arith, h))

pub near : (word : List ℕ) → is_far word ≡ false → IsNear word
unfolding scale
near word e =
    let small : power word + length word < 2 ^ 62 = not_le (2 ^ 62) (power word + length word) e in
    let r = raised_within (starts_with_minus (exponent word)) (power word) (length word) small in
    let few = digits_short word in
    let left : length (after_zeros (digits word)) ≤ length (digits word) = shorter _ (digits word) in
    let many = length-append (whole word) (fraction word) in
    record { low = omega (arith, r.0, few); scale_is = omega (arith, r.0, few); small = omega (arith, r.1, few, left, many); few = omega (arith, r.1, few, left, many) }
  where
    not_le : (m n : ℕ) → nat_le m n ≡ false → n < m
    not_le m n f = let off : m ≤ n → ⊥ = λ le. both_ways (nat_le m n) f (le-leb m n le) in omega (arith, off)

-- ---- the exponent

-- a byte that is no digit comes first
exponent_shape : (n : ℕ) → (c : ℕ) × (t : List ℕ) × (is_ascii_digit c ≡ false) × (exponent_text n ≡ c ∷ t)
unfolding exponent_text
exponent_shape n = elim (cases_Bool (nat_le (2 ^ 62) n)) [
  | inl e ↦ (69, decimal (n - 2 ^ 62), refl, cond-true (nat_le (2 ^ 62) n) (69 ∷ decimal (n - 2 ^ 62)) (101 ∷ decimal (2 ^ 62 - n)) e)
  | inr e ↦ (101, decimal (2 ^ 62 - n), refl, cond-false (nat_le (2 ^ 62) n) (69 ∷ decimal (n - 2 ^ 62)) (101 ∷ decimal (2 ^ 62 - n)) e)
]

not_far : (m n : ℕ) → nat_le m n ≡ false → n < m
not_far m n f = let off : m ≤ n → ⊥ = λ le. both_ways (nat_le m n) f (le-leb m n le) in omega (arith, off)

tail_same : (c d : ℕ) (s t : List ℕ) → c ∷ s ≡ d ∷ t → (c ≡ d) × (s ≡ t)
tail_same c d s t e = (ap (λ (u : List ℕ). get_or u 0 0) e, ap (λ (u : List ℕ). drop 1 u) e)

exponent_same : (n m : ℕ) → n < 2 ^ 63 → m < 2 ^ 63 → exponent_text n ≡ exponent_text m → n ≡ m
unfolding exponent_text
exponent_same n m p q e = both (nat_le (2 ^ 62) n) (nat_le (2 ^ 62) m) refl refl e
  where
    both : (b d : Bool) → nat_le (2 ^ 62) n ≡ b → nat_le (2 ^ 62) m ≡ d
        → cond b (69 ∷ decimal (n - 2 ^ 62)) (101 ∷ decimal (2 ^ 62 - n)) ≡ cond d (69 ∷ decimal (m - 2 ^ 62)) (101 ∷ decimal (2 ^ 62 - m)) → n ≡ m
    both true true f g h =
        let is = decimal_injective (n - 2 ^ 62) (m - 2 ^ 62) (omega (arith, p)) (omega (arith, q)) (tail_same 69 69 _ _ h).1 in
        let low = leb-true (2 ^ 62) n f in
        let other = leb-true (2 ^ 62) m g in
        omega (arith, is, low, other)
    both true false f g h = absurd (let no = (tail_same 69 101 _ _ h).0 in omega (arith, no))
    both false true f g h = absurd (let no = (tail_same 101 69 _ _ h).0 in omega (arith, no))
    both false false f g h =
        let is = decimal_injective (2 ^ 62 - n) (2 ^ 62 - m) (omega arith) (omega arith) (tail_same 101 101 _ _ h).1 in
        let low = not_far (2 ^ 62) n f in
        let other = not_far (2 ^ 62) m g in
        omega (arith, is, low, other)

-- digits end before a byte that is none
parted : (xs ys s t : List ℕ) (c d : ℕ) → AreDigits xs → AreDigits ys → is_ascii_digit c ≡ false → is_ascii_digit d ≡ false
    → xs ++ c ∷ s ≡ ys ++ d ∷ t → (xs ≡ ys) × (c ∷ s ≡ d ∷ t)
parted xs ys s t c d p q f g e =
    let same : xs ≡ ys = sym (take_while-front is_ascii_digit xs c s p f) ∙ ap (take_while is_ascii_digit) e ∙ take_while-front is_ascii_digit ys d t q g in
    (same, sym (drop_at xs (c ∷ s) (length xs) refl) ∙ ap (drop (length xs)) e ∙ drop_at ys (d ∷ t) (length xs) (ap length (sym same)))

front_and_exponent : (xs ys : List ℕ) (n m : ℕ) → AreDigits xs → AreDigits ys → n < 2 ^ 63 → m < 2 ^ 63
    → xs ++ exponent_text n ≡ ys ++ exponent_text m → (xs ≡ ys) × (n ≡ m)
front_and_exponent xs ys n m p q small other e =
    let a = exponent_shape n in
    let b = exponent_shape m in
    let shaped : xs ++ a.0 ∷ a.1 ≡ ys ++ b.0 ∷ b.1 = ap (λ (u : List ℕ). xs ++ u) (sym a.3) ∙ e ∙ ap (λ (u : List ℕ). ys ++ u) b.3 in
    let r = parted xs ys a.1 b.1 a.0 b.0 p q a.2 b.2 shaped in
    (r.0, exponent_same n m small other (a.3 ∙ r.1 ∙ sym b.3))

-- ---- a number's text

sign_same : (b d : Bool) → cond {A = ℕ} b 45 43 ≡ cond {A = ℕ} d 45 43 → b ≡ d
sign_same true true e = refl
sign_same true false e = absurd (omega (arith, e))
sign_same false true e = absurd (omega (arith, e))
sign_same false false e = refl

sign_high : (b : Bool) → (43 ≤ cond b 45 43) × (cond b 45 43 ≤ 45)
sign_high true = (omega arith, omega arith)
sign_high false = (omega arith, omega arith)

number_head : (b : Bool) (xs : List ℕ) (n : ℕ) → (43 ≤ get_or (number_text b xs n) 0 0) × (get_or (number_text b xs n) 0 0 ≤ 48)
number_head b [] n = (omega arith, omega arith)
number_head b (x ∷ xs) n = let h = sign_high b in (h.0, omega (arith, h.1))

number_same : (b d : Bool) (xs ys : List ℕ) (n m : ℕ) → AreDigits xs → AreDigits ys → n < 2 ^ 63 → m < 2 ^ 63
    → number_text b xs n ≡ number_text d ys m → (xs ≡ ys) × ((xs ≡ []) ⊎ ((b ≡ d) × (n ≡ m)))
number_same b d [] [] n m p q small other e = (refl, inl refl)
number_same b d [] (y ∷ ys) n m p q small other e =
    let h = sign_high d in
    absurd (let no = ap (λ (u : List ℕ). get_or u 0 0) e in omega (arith, no, h.1))
number_same b d (x ∷ xs) [] n m p q small other e =
    let h = sign_high b in
    absurd (let no = ap (λ (u : List ℕ). get_or u 0 0) e in omega (arith, no, h.1))
number_same b d (x ∷ xs) (y ∷ ys) n m p q small other e =
    let t = tail_same (cond b 45 43) (cond d 45 43) ((x ∷ xs) ++ exponent_text n) ((y ∷ ys) ++ exponent_text m) e in
    let r = front_and_exponent (x ∷ xs) (y ∷ ys) n m p q small other t.1 in
    (r.0, inr (sign_same b d t.0, r.1))

-- ---- a word's text

counting_are : (word : List ℕ) → AreDigits (significant (digits word))
counting_are word = turned (after_zeros (digits word)) (left (digits word) (digits_are word))
  where
    left : (xs : List ℕ) → AreDigits xs → AreDigits (after_zeros xs)
    left xs d = list_all-drop is_ascii_digit (prefix_len is_zero xs) xs d

    turned : (xs : List ℕ) → AreDigits xs → AreDigits (reverse (after_zeros (reverse xs)))
    turned xs d =
        list_all-reverse is_ascii_digit (after_zeros (reverse xs))
        (list_all-drop is_ascii_digit (prefix_len is_zero (reverse xs)) (reverse xs) (list_all-reverse is_ascii_digit xs d))

abbrev pub near_text : List ℕ → List ℕ
near_text word = number_text (starts_with_minus word) (significant (digits word)) (scale word)

pub text_near : (word : List ℕ) → is_far word ≡ false → word_text word ≡ near_text word
unfolding word_text
text_near word e = cond-false (is_far word) (33 ∷ word) (near_text word) e

pub text_far : (word : List ℕ) → is_far word ≡ true → word_text word ≡ 33 ∷ word
unfolding word_text
text_far word e = cond-true (is_far word) (33 ∷ word) (near_text word) e

text_head : (word : List ℕ) → (33 ≤ get_or (word_text word) 0 0) × (get_or (word_text word) 0 0 ≤ 48)
text_head word = elim (cases_Bool (is_far word)) [
  | inl e ↦ let first = ap (λ (u : List ℕ). get_or u 0 0) (text_far word e) in (omega (arith, first), omega (arith, first))
  | inr e ↦
      let first = ap (λ (u : List ℕ). get_or u 0 0) (text_near word e) in
      let h = number_head (starts_with_minus word) (significant (digits word)) (scale word) in
      (omega (arith, first, h.0), omega (arith, first, h.1))
]

-- ---- the same text, and the same number

number_if_text : (a b : List ℕ) → is_far a ≡ false → is_far b ≡ false → near_text a ≡ near_text b → AreSameNumber a b
number_if_text a b f g e =
    let na = near a f in
    let nb = near b g in
    let r = number_same (starts_with_minus a) (starts_with_minus b) (significant (digits a)) (significant (digits b)) (scale a) (scale b)
    (counting_are a) (counting_are b) na.small nb.small e in
    elim r.1 [
      | inl none ↦ inl (zero_if_none (digits a) none, zero_if_none (digits b) (sym r.0 ∙ none))
      | inr same ↦
          let s = same_scaled (digits a) (digits b) r.0 in
          let even = s.3 in
          inr (same.0, (s.0, s.1, s.2, omega (arith, na.scale_is, nb.scale_is, same.1, even)))
    ]

text_if_zero : (word : List ℕ) → mantissa word ≡ 0 → near_text word ≡ 48 ∷ []
text_if_zero word e = ap (λ (ds : List ℕ). number_text (starts_with_minus word) ds (scale word)) (none_if_zero (digits word) (digits_are word) e)

some_power : (k : ℕ) → 0 < 10 ^ k
some_power zero = omega arith
some_power (suc k) = let more = some_power k in let e = pow-succ' 10 k in omega (arith, more, e)

zero_factor : (m p : ℕ) → 0 < p → m * p ≡ 0 → m ≡ 0
zero_factor zero p h e = refl
zero_factor (suc m) p h e = let one : suc m * p ≡ p + m * p = grind arith in absurd (omega (arith, one, h, e))

zero_cases : (n : ℕ) → (n ≡ 0) ⊎ (0 < n)
zero_cases zero = inl refl
zero_cases (suc n) = inr (omega arith)

text_if_number : (a b : List ℕ) → is_far a ≡ false → is_far b ≡ false → AreSameNumber a b → near_text a ≡ near_text b
text_if_number a b f g (inl zeros) = text_if_zero a zeros.0 ∙ sym (text_if_zero b zeros.1)
text_if_number a b f g (inr (sign, (k, l, e, even))) =
    elim (zero_cases (mantissa a)) [
      | inl none ↦
          let other : mantissa b ≡ 0 = zero_factor (mantissa b) (10 ^ l) (some_power l) (sym e ∙ ap (λ (m : ℕ). m * 10 ^ k) none ∙ nothing (10 ^ k)) in
          text_if_zero a none ∙ sym (text_if_zero b other)
      | inr some ↦
          elim (zero_cases (mantissa b)) [
            | inl none ↦
                let other : mantissa a ≡ 0 = zero_factor (mantissa a) (10 ^ k) (some_power k) (e ∙ ap (λ (m : ℕ). m * 10 ^ l) none ∙ nothing (10 ^ l)) in
                text_if_zero a other ∙ sym (text_if_zero b none)
            | inr more ↦
                let na = near a f in
                let nb = near b g in
                let s = same_digits (digits a) (digits b) k l (digits_are a) (digits_are b) e some more in
                let place : scale a ≡ scale b = omega (arith, na.scale_is, nb.scale_is, s.1, even) in
                ap (λ (b : Bool). number_text b (significant (digits a)) (scale a)) sign
                ∙ ap (λ (ds : List ℕ). number_text (starts_with_minus b) ds (scale a)) s.0
                ∙ ap (number_text (starts_with_minus b) (significant (digits b))) place
          ]
    ]
  where
    nothing : (p : ℕ) → 0 * p ≡ 0
    nothing p = omega arith

same_word : (a b : List ℕ) → word_text a ≡ word_text b → AreEqualWords a b
same_word a b e = elim (cases_Bool (is_far a)) [
  | inl f ↦
      elim (cases_Bool (is_far b)) [
        | inl g ↦ inl (tail_same 33 33 a b (sym (text_far a f) ∙ e ∙ text_far b g)).1
        | inr g ↦ absurd (mixed a b f g e)
      ]
  | inr f ↦
      elim (cases_Bool (is_far b)) [
        | inl g ↦ absurd (mixed b a g f (sym e))
        | inr g ↦ inr (is_no (is_far a) f, is_no (is_far b) g, number_if_text a b f g (sym (text_near a f) ∙ e ∙ text_near b g))
      ]
]
  where
    is_no : (b : Bool) → b ≡ false → IsFalse b
    is_no b f = f

    mixed : (x y : List ℕ) → is_far x ≡ true → is_far y ≡ false → word_text x ≡ word_text y → ⊥
    mixed x y f g h =
        let first = ap (λ (u : List ℕ). get_or u 0 0) (sym (text_far x f) ∙ h ∙ text_near y g) in
        let high = number_head (starts_with_minus y) (significant (digits y)) (scale y) in
        omega (arith, first, high.0)

same_text : (a b : List ℕ) → AreEqualWords a b → word_text a ≡ word_text b
same_text a b (inl e) = ap word_text e
same_text a b (inr (f, g, same)) = text_near a f ∙ text_if_number a b f g same ∙ sym (text_near b g)

-- ---- values

from_word : (word : List ℕ) (b : Value) → word_text word ≡ canonical b → IsNumber word b
from_word word value.Default e = let h = text_head word in let first = ap (λ (u : List ℕ). get_or u 0 0) e in absurd (omega (arith, h.0, first))
from_word word (value.Int n) e = same_word word (signed_decimal n) e
from_word word (value.Real other) e = same_word word other e
from_word word (value.Text text) e = let h = text_head word in let first = ap (λ (u : List ℕ). get_or u 0 0) e in absurd (omega (arith, h.1, first))

to_word : (word : List ℕ) (b : Value) → IsNumber word b → word_text word ≡ canonical b
to_word word value.Default h = absurd h
to_word word (value.Int n) h = same_text word (signed_decimal n) h
to_word word (value.Real other) h = same_text word other h
to_word word (value.Text text) h = absurd h

from_default : (b : Value) → [] ≡ canonical b → b ≡ value.Default
from_default value.Default e = refl
from_default (value.Int n) e = let h = text_head (signed_decimal n) in let first = ap (λ (u : List ℕ). get_or u 0 0) e in absurd (omega (arith, h.0, first))
from_default (value.Real word) e = let h = text_head word in let first = ap (λ (u : List ℕ). get_or u 0 0) e in absurd (omega (arith, h.0, first))
from_default (value.Text text) e = let first = ap (λ (u : List ℕ). get_or u 0 0) e in absurd (omega (arith, first))

from_text : (text : List ℕ) (b : Value) → 72 ∷ text ≡ canonical b → b ≡ value.Text text
from_text text value.Default e = let first = ap (λ (u : List ℕ). get_or u 0 0) e in absurd (omega (arith, first))
from_text text (value.Int n) e = let h = text_head (signed_decimal n) in let first = ap (λ (u : List ℕ). get_or u 0 0) e in absurd (omega (arith, h.1, first))
from_text text (value.Real word) e = let h = text_head word in let first = ap (λ (u : List ℕ). get_or u 0 0) e in absurd (omega (arith, h.1, first))
from_text text (value.Text other) e = ap value.Text (sym (tail_same 72 72 text other e).1)

pub texts_decide : (a b : Value) → (canonical a ≡ canonical b → AreEqualValues a b) × (AreEqualValues a b → canonical a ≡ canonical b)
texts_decide value.Default b = (from_default b, λ e. ap canonical (sym e))
texts_decide (value.Int n) b = (from_word (signed_decimal n) b, to_word (signed_decimal n) b)
texts_decide (value.Real word) b = (from_word word b, to_word word b)
texts_decide (value.Text text) b = (from_text text b, λ e. ap canonical (sym e))
