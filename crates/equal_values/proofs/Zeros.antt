-- Zeros at the two ends of digits, and the numbers that digits write.
use Rattle.std.proofs.Common.{◌≡◌, inl, inr, ℕ, zero, suc, ◌+◌, ◌-◌, ◌*◌, ◌^◌, ◌<◌, true, false, List, [], ◌∷◌, ◌++◌, length, drop, reverse, replicate}
use Rattle.std.proofs.Common.{refl, sym, ap, subst, ◌∙◌, arith}
use Rattle.std.specs.Char.{is_ascii_digit, digit_value}
use Rattle.std.specs.List.{list_all}
use Rattle.std.specs.Str.Parse.{digits_value, digits_value_after}
use Rattle.std.proofs.Math.Nat.{pow-succ'}
use Rattle.std.proofs.Math.Numerals.{add-one}
use Rattle.std.proofs.lemmas.Bool.{eqb-true, and_parts, cases_Bool}
use Rattle.std.proofs.lemmas.Int.Digits.{digits_value_push}
use Rattle.std.proofs.lemmas.List.{append-nil, reverse-append, reverse-reverse, replicate-append-replicate}
use Rattle.std.proofs.lemmas.Str.{digit_value_digit}
use Rattle.iges_base.proofs.DigitFronts.{digit_range}
use Rattle.iges_base.proofs.Lists.{prefix_len-pass, prefix_len-stop, list_all-reverse, list_all-both}
use Rattle.equal_values.specs.Canonical.{is_zero, after_zeros, before_zeros}

abbrev pub zeros : ℕ → List ℕ
zeros n = replicate n 48

abbrev pub AreDigits : List ℕ → Type 0
AreDigits ds = list_all is_ascii_digit ds ≡ true

-- ---- zeros at the front

pub after_zeros-zero : (text : List ℕ) → after_zeros (48 ∷ text) ≡ after_zeros text
after_zeros-zero text = ap (λ (n : ℕ). drop n (48 ∷ text)) (prefix_len-pass is_zero 48 text refl)

pub after_zeros-other : (b : ℕ) (text : List ℕ) → is_zero b ≡ false → after_zeros (b ∷ text) ≡ b ∷ text
after_zeros-other b text e = ap (λ (n : ℕ). drop n (b ∷ text)) (prefix_len-stop is_zero b text e)

pub after_zeros-zeros : (n : ℕ) (text : List ℕ) → after_zeros (zeros n ++ text) ≡ after_zeros text
after_zeros-zeros zero text = refl
after_zeros-zeros (suc n) text = after_zeros-zero (zeros n ++ text) ∙ after_zeros-zeros n text

pub after_zeros-only : (n : ℕ) → after_zeros (zeros n) ≡ []
after_zeros-only n = ap after_zeros (sym (append-nil (zeros n))) ∙ after_zeros-zeros n []

-- digits begin with zeros, and what comes behind begins with none
pub after_zeros-is : (text : List ℕ) → (n : ℕ) × (text ≡ zeros n ++ after_zeros text)
after_zeros-is [] = (0, refl)
after_zeros-is (b ∷ text) =
    elim (cases_Bool (is_zero b)) [
      | inl e ↦
          let more = after_zeros-is text in
          let b-is : b ≡ 48 = eqb-true b 48 e in
          let all : (48 ∷ text) ≡ zeros (suc more.0) ++ after_zeros (48 ∷ text) =
          ap (λ (t : List ℕ). 48 ∷ t) more.1 ∙ ap (λ (t : List ℕ). zeros (suc more.0) ++ t) (sym (after_zeros-zero text)) in
          (suc more.0, subst (λ (c : ℕ). (c ∷ text) ≡ zeros (suc more.0) ++ after_zeros (c ∷ text)) (sym b-is) all)
      | inr e ↦ (0, sym (after_zeros-other b text e))
    ]

-- what is left of digits that come behind others
abbrev pub left_behind : List ℕ → List ℕ → List ℕ
left_behind [] ys = after_zeros ys
left_behind (x ∷ xs) ys = x ∷ xs ++ ys

pub after_zeros-append : (xs ys : List ℕ) → after_zeros (xs ++ ys) ≡ left_behind (after_zeros xs) ys
after_zeros-append [] ys = refl
after_zeros-append (x ∷ xs) ys =
    elim (cases_Bool (is_zero x)) [
      | inl e ↦
          subst (λ (c : ℕ). after_zeros (c ∷ xs ++ ys) ≡ left_behind (after_zeros (c ∷ xs)) ys) (sym (eqb-true x 48 e))
          (after_zeros-zero (xs ++ ys) ∙ after_zeros-append xs ys ∙ ap (λ (t : List ℕ). left_behind t ys) (sym (after_zeros-zero xs)))
      | inr e ↦ after_zeros-other x (xs ++ ys) e ∙ ap (λ (t : List ℕ). left_behind t ys) (sym (after_zeros-other x xs e))
    ]

pub left_behind-some : (xs ys : List ℕ) → 0 < length xs → left_behind xs ys ≡ xs ++ ys
left_behind-some [] ys h = absurd (omega (arith, h))
left_behind-some (x ∷ xs) ys h = refl

-- ---- zeros at the end

reverse-zeros : (n : ℕ) → reverse (zeros n) ≡ zeros n
reverse-zeros zero = refl
reverse-zeros (suc n) =
    reverse-append (48 ∷ []) (zeros n) ∙ ap (λ (t : List ℕ). t ++ 48 ∷ []) (reverse-zeros n)
    ∙ replicate-append-replicate n 1 48 ∙ ap zeros (add-one n)

pub before_zeros-zeros : (text : List ℕ) (n : ℕ) → before_zeros (text ++ zeros n) ≡ before_zeros text
before_zeros-zeros text n =
    ap (λ (t : List ℕ). reverse (after_zeros t))
    (reverse-append text (zeros n) ∙ ap (λ (t : List ℕ). t ++ reverse text) (reverse-zeros n))
    ∙ ap reverse (after_zeros-zeros n (reverse text))

pub before_zeros-is : (text : List ℕ) → (n : ℕ) × (text ≡ before_zeros text ++ zeros n)
before_zeros-is text =
    let b = after_zeros-is (reverse text) in (
      b.0,
      sym (reverse-reverse text) ∙ ap reverse b.1 ∙ reverse-append (zeros b.0) (after_zeros (reverse text))
          ∙ ap (λ (t : List ℕ). before_zeros text ++ t) (reverse-zeros b.0),
    )

-- ---- numbers

pub value_append : (n : ℕ) (xs ys : List ℕ) → digits_value_after 10 n (xs ++ ys) ≡ digits_value_after 10 (digits_value_after 10 n xs) ys
value_append n [] ys = refl
value_append n (x ∷ xs) ys = value_append (n * 10 + digit_value x) xs ys

pub value_zeros : (n k : ℕ) → digits_value_after 10 n (zeros k) ≡ n * 10 ^ k
value_zeros n zero = omega arith
value_zeros n (suc k) = value_zeros (n * 10 + digit_value 48) k ∙ times n (10 ^ k) ∙ ap (λ (p : ℕ). n * p) (sym (pow-succ' 10 k))
  where
    times : (m p : ℕ) → (m * 10 + 0) * p ≡ m * (10 * p)
    times m p = grind arith

pub value_scaled : (ds : List ℕ) (k : ℕ) → digits_value 10 (ds ++ zeros k) ≡ digits_value 10 ds * 10 ^ k
value_scaled ds k = value_append 0 ds (zeros k) ∙ value_zeros (digits_value 10 ds) k

pub value_after_zeros : (ds : List ℕ) → digits_value 10 (after_zeros ds) ≡ digits_value 10 ds
value_after_zeros ds =
    let z = after_zeros-is ds in
    sym (ap (digits_value 10) z.1 ∙ value_append 0 (zeros z.0) (after_zeros ds)
    ∙ ap (λ (n : ℕ). digits_value_after 10 n (after_zeros ds)) (value_zeros 0 z.0 ∙ none (10 ^ z.0)))
  where
    none : (p : ℕ) → 0 * p ≡ 0
    none p = omega arith

-- ---- digits that write the same number are the same but for zeros at their front

reverse-cons : (x : ℕ) (xs : List ℕ) → reverse (x ∷ xs) ≡ reverse xs ++ x ∷ []
reverse-cons x xs = reverse-append (x ∷ []) xs

-- the number of digits that stand the least first
back_value : List ℕ → ℕ
back_value xs = digits_value 10 (reverse xs)

abbrev back_left : List ℕ → List ℕ
back_left xs = after_zeros (reverse xs)

back_more : (x : ℕ) (xs : List ℕ) → is_ascii_digit x ≡ true → digits_value 10 (reverse (x ∷ xs)) ≡ digits_value 10 (reverse xs) * 10 + (x - 48)
back_more x xs d =
    let worth : digit_value x ≡ x - 48 = omega (arith, digit_value_digit x (digit_range x d)) in
    ap (digits_value 10) (reverse-cons x xs) ∙ digits_value_push 10 (reverse xs) x
    ∙ ap (λ (n : ℕ). digits_value 10 (reverse xs) * 10 + n) worth

back_left-cons : (x : ℕ) (xs : List ℕ) → back_left (x ∷ xs) ≡ left_behind (back_left xs) (x ∷ [])
back_left-cons x xs = ap after_zeros (reverse-cons x xs) ∙ after_zeros-append (reverse xs) (x ∷ [])

-- digits of the number 0
back_none : (xs : List ℕ) → AreDigits xs → digits_value 10 (reverse xs) ≡ 0 → back_left xs ≡ []
back_none [] d e = refl
back_none (x ∷ xs) d e =
    let p = and_parts (is_ascii_digit x) (list_all is_ascii_digit xs) d in
    let m = back_more x xs p.0 in
    let r = digit_range x p.0 in
    let x-is : x ≡ 48 = omega (arith, m, e, r.0) in
    back_left-cons x xs ∙ ap (λ (t : List ℕ). left_behind t (x ∷ [])) (back_none xs p.1 (omega (arith, m, e)))
    ∙ ap (λ (c : ℕ). after_zeros (c ∷ [])) x-is

back_same : (xs ys : List ℕ) → AreDigits xs → AreDigits ys → digits_value 10 (reverse xs) ≡ digits_value 10 (reverse ys) → back_left xs ≡ back_left ys
back_same [] ys d f e = sym (back_none ys f (sym e))
back_same (x ∷ xs) [] d f e = back_none (x ∷ xs) d e
back_same (x ∷ xs) (y ∷ ys) d f e =
    let p = and_parts (is_ascii_digit x) (list_all is_ascii_digit xs) d in
    let q = and_parts (is_ascii_digit y) (list_all is_ascii_digit ys) f in
    let m = back_more x xs p.0 in
    let n = back_more y ys q.0 in
    let r = digit_range x p.0 in
    let s = digit_range y q.0 in
    let one : x ≡ y = omega (arith, m, n, e, r.0, r.1, s.0, s.1) in
    let more : digits_value 10 (reverse xs) ≡ digits_value 10 (reverse ys) = omega (arith, m, n, e, r.0, r.1, s.0, s.1) in
    back_left-cons x xs ∙ ap (λ (t : List ℕ). left_behind t (x ∷ [])) (back_same xs ys p.1 q.1 more)
    ∙ ap (λ (c : ℕ). left_behind (back_left ys) (c ∷ [])) one ∙ sym (back_left-cons y ys)

pub same_left : (xs ys : List ℕ) → AreDigits xs → AreDigits ys → digits_value 10 xs ≡ digits_value 10 ys → after_zeros xs ≡ after_zeros ys
same_left xs ys d f e =
    let a = reverse-reverse xs in
    let b = reverse-reverse ys in
    ap after_zeros (sym a)
    ∙ back_same (reverse xs) (reverse ys) (list_all-reverse is_ascii_digit xs d) (list_all-reverse is_ascii_digit ys f)
    (ap (digits_value 10) a ∙ e ∙ ap (digits_value 10) (sym b))
    ∙ ap after_zeros b

-- digits of the number 0 are zeros
pub none_left : (xs : List ℕ) → AreDigits xs → digits_value 10 xs ≡ 0 → after_zeros xs ≡ []
none_left xs d e = same_left xs [] d refl e

pub are_zeros : (ds : List ℕ) (k : ℕ) → AreDigits ds → AreDigits (ds ++ zeros k)
are_zeros ds k d = list_all-both is_ascii_digit ds (zeros k) d (zeros_are k)
  where
    zeros_are : (n : ℕ) → AreDigits (zeros n)
    zeros_are zero = refl
    zeros_are (suc n) = zeros_are n
