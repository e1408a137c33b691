-- The letter and the number at a line's end, and the next ones.
use Rattle.std.proofs.Common.{◌≡◌, ℕ, zero, suc, ◌+◌, ◌-◌, ◌<◌, ◌≤◌, ◌^◌, ◌/◌, ◌%◌, List, [], ◌∷◌, ◌++◌, length, drop, set, get_or, inl, inr, refl, sym, ap, ◌∙◌}
use Rattle.std.proofs.Common.{append_assoc, arith, length-append, lit<}
use Rattle.std.specs.Fmt.{decimal}
use Rattle.std.proofs.Math.Nat.{pow-le-pow_right}
use Rattle.std.proofs.lemmas.Bool.{cases_lt}
use Rattle.std.proofs.lemmas.Fmt.{decimal_digit, decimal_step, decimal_is_IsNumeral}
use Rattle.std.proofs.lemmas.Int.Digits.{digits_value-lt}
use Rattle.std.proofs.lemmas.List.{drop-append-le}
use Rattle.iges_base.specs.Word.{spaces}
use Rattle.iges_write.specs.Filled.{padded}
use Rattle.iges_write.specs.declared.fault.WriteFileFault.{WriteFileFault}
use Rattle.iges_write.specs.declared.fault.WriteFileFault.TheVariants as fault
use Rattle.iges_write.specs.Sheet.{Fails, Sheet, end_line, ended, whole_line}
use Rattle.iges_write.specs.Text.{count_field, right}
use Rattle.iges_write.proofs.Columns.{length-right, right-is}

pub first_is : (letter : ℕ) → letter ∷ 32 ∷ 32 ∷ 32 ∷ 32 ∷ 32 ∷ 32 ∷ 49 ∷ [] ≡ count_field letter 1
first_is letter = ap (λ (d : List ℕ). letter ∷ right 7 d) (sym (decimal_digit 1 (lit< tt)))

-- ---- numbers of many digits

pub many_digits : (n : ℕ) → n < 2 ^ 64 → 9999999 < n → 7 ≤ length (decimal n)
many_digits n small large =
    let numeral = decimal_is_IsNumeral n small in
    let below = digits_value-lt 10 (decimal n) numeral.0.1 in
    let limit : 10 ^ 6 ≡ 1000000 = refl in
    elim (cases_lt (length (decimal n)) 7) [
      | inl few ↦
          let fewer : length (decimal n) ≤ 6 = omega (arith, few) in
          let bound : 10 ^ length (decimal n) ≤ 10 ^ 6 = pow-le-pow_right (lit< tt) fewer in
          absurd (omega (arith, below, numeral.1, large, limit, bound))
      | inr enough ↦ enough
    ]

-- in eight columns and in seven
pub right_eight : (d : List ℕ) → length d ≤ 7 → right 8 d ≡ 32 ∷ right 7 d
right_eight d few =
    let more : 8 - length d ≡ suc (7 - length d) = omega (arith, few) in
    right-is 8 d (omega (arith, few)) ∙ ap (λ (k : ℕ). spaces k ++ d) more ∙ ap (λ (x : List ℕ). 32 ∷ x) (sym (right-is 7 d few))

-- ---- the next number

-- what stands before the last digit
pub record LastDigit (n : ℕ) : Type 0 where
  pub front : List ℕ
  pub digit : ℕ
  pub is : decimal n ≡ front ++ (48 + digit) ∷ []
  pub next : digit < 9 → decimal (n + 1) ≡ front ++ (49 + digit) ∷ []

last_digit : (n : ℕ) → n < 2 ^ 63 → LastDigit n
last_digit n small =
    elim (cases_lt n 10) [
      | inl one ↦ record { front = []; digit = n; is = decimal_digit n one; next = λ few. decimal_digit (n + 1) (omega (arith, few)) ∙ ap (λ (k : ℕ). k ∷ []) (omega arith) }
      | inr more ↦ record {
        front = decimal (n / 10);
        digit = n % 10;
        is = decimal_step n more (omega (arith, small));
        next = λ few.
            let tens : (n + 1) / 10 ≡ n / 10 = omega (arith, few) in
            let ones : 48 + (n + 1) % 10 ≡ 49 + n % 10 = omega (arith, few) in
            decimal_step (n + 1) (omega (arith, more)) (omega (arith, small)) ∙ ap (λ (k : ℕ). decimal k ++ (48 + (n + 1) % 10) ∷ []) tens
            ∙ ap (λ (k : ℕ). decimal (n / 10) ++ k ∷ []) ones;
      }
    ]

-- the columns before the last one
right_last : (front : List ℕ) (b : ℕ) → right 7 (front ++ b ∷ []) ≡ drop (length front + 1) (spaces 7 ++ front) ++ b ∷ []
right_last front b =
    let long : length (front ++ b ∷ []) ≡ length front + 1 = length-append front (b ∷ []) in
    ap (λ (k : ℕ). drop k (spaces 7 ++ (front ++ b ∷ []))) long
    ∙ ap (drop (length front + 1)) (sym (append_assoc (spaces 7) front (b ∷ [])))
    ∙ drop-append-le (length front + 1) (spaces 7 ++ front) (b ∷ []) (omega (arith, length-append (spaces 7) front))

-- a list with another last item
set_last : (k : ℕ) (xs : List ℕ) (b y : ℕ) → length xs ≡ k → (get_or (xs ++ b ∷ []) k 0 ≡ b) × (set (xs ++ b ∷ []) k y ≡ xs ++ y ∷ [])
set_last zero [] b y e = (refl, refl)
set_last zero (x ∷ xs) b y e = absurd (omega (arith, e))
set_last (suc k) [] b y e = absurd (omega (arith, e))
set_last (suc k) (x ∷ xs) b y e = let more = set_last k xs b y (omega (arith, e)) in (more.0, ap (λ (t : List ℕ). x ∷ t) more.1)

pub next_is : (field : List ℕ) (first n : ℕ) → n < 2 ^ 63 → field ≡ count_field first n → get_or field 7 0 < 57
    → set field 7 (get_or field 7 0 + 1) ≡ count_field first (n + 1)
next_is field first n small is few =
    let d = last_digit n small in
    let before = first ∷ drop (length d.front + 1) (spaces 7 ++ d.front) in
    let whole : field ≡ before ++ (48 + d.digit) ∷ [] =
    is ∙ ap (λ (x : List ℕ). first ∷ right 7 x) d.is ∙ ap (λ (x : List ℕ). first ∷ x) (right_last d.front (48 + d.digit)) in
    let long : length before ≡ 7 =
    omega (arith, ap length (sym whole ∙ is), length-right 7 (decimal n), length-append before ((48 + d.digit) ∷ [])) in
    let at = set_last 7 before (48 + d.digit) (49 + d.digit) long in
    let digit : get_or field 7 0 ≡ 48 + d.digit = ap (λ (x : List ℕ). get_or x 7 0) whole ∙ at.0 in
    let more : get_or field 7 0 + 1 ≡ 49 + d.digit = omega (arith, digit) in
    ap (set field 7) more ∙ ap (λ (x : List ℕ). set x 7 (49 + d.digit)) whole ∙ at.1
    ∙ ap (λ (x : List ℕ). first ∷ x) (sym (right_last d.front (49 + d.digit)))
    ∙ ap (λ (x : List ℕ). first ∷ right 7 x) (sym (d.next (omega (arith, digit, few))))

-- ---- a finished line

pub whole_is : (line tail ending columns : List ℕ) (letter number : ℕ) → ending ≡ count_field letter number → line ≡ ((columns ++ tail) ++ ending) ++ 10 ∷ []
    → line ≡ whole_line tail letter number columns
unfolding whole_line
whole_is line tail ending columns letter number e is = is ∙ ap (λ (x : List ℕ). ((columns ++ tail) ++ x) ++ 10 ∷ []) e

module _ (s : Sheet) (line ending : List ℕ) (e : ending ≡ count_field s.letter s.number)
    (is : line ≡ ((padded s.width s.line ++ s.tail) ++ ending) ++ 10 ∷ []) where
  pub ended_is : line ≡ ended s
  ended_is = whole_is line s.tail ending (padded s.width s.line) s.letter s.number e is

  pub too_large : s.limit - length s.text < length line → s.limit < length (end_line s).text
  too_large large = omega (arith, large, ap length ended_is, length-append s.text (ended s))

  -- why the line isn't put behind the text
  pub line_fails : (f : WriteFileFault) → (f ≡ fault.TooLarge → s.limit - length s.text < length line) → Fails f (end_line s)
  line_fails fault.TooLarge large = too_large (large refl)
  line_fails fault.NoMemory large = tt

  pub line_done : (text none : List ℕ) (number : ℕ) → text ≡ s.text ++ line → none ≡ [] → number ≡ s.number + 1 → record {
    text = text;
    line = none;
    tail = s.tail;
    letter = s.letter;
    number = number;
    width = s.width;
    limit = s.limit;
  } ≡ end_line s
  line_done text none number text-is none-is number-is =
      ap (λ (x : List ℕ). record { text = x; line = none; tail = s.tail; letter = s.letter; number = number; width = s.width; limit = s.limit })
      (text-is ∙ ap (λ (x : List ℕ). s.text ++ x) ended_is)
      ∙ ap (λ (x : List ℕ).
      record { text = s.text ++ ended s; line = x; tail = s.tail; letter = s.letter; number = number; width = s.width; limit = s.limit }) none-is
      ∙ ap (λ (n : ℕ).
      record { text = s.text ++ ended s; line = []; tail = s.tail; letter = s.letter; number = n; width = s.width; limit = s.limit }) number-is
