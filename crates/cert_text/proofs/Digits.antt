-- What a front of some digits is worth, and the texts of numbers.
use Rattle.std.proofs.Common.{rules, ◌≡◌, ℕ, zero, suc, ◌+◌, ◌-◌, ◌*◌, ◌%◌, ◌<◌, ◌≤◌, ◌^◌, List, [], ◌∷◌, ◌++◌, length, take, drop, get_or, arith, length-take}
use Rattle.std.proofs.Common.{lit<, refl, sym, ◌∙◌, ap, subst, take-append-drop}
use Rattle.std.proofs.Math.Nat.{pow-le-pow_right}
use Rattle.std.specs.Prelude.{decimal, ◌↔◌}
use Rattle.std.specs.Str.Parse.{AllDigits, IsNumeral, digits_value}
use Rattle.std.proofs.lemmas.Str.{digit_value_digit}
use Rattle.std.proofs.lemmas.Str.Parse.{numerals_by_value, digit_from_value}
use Rattle.std.specs.Char.{digit_value}
use Rattle.std.specs.Int.{IsInRange}
use Rattle.std.proofs.lemmas.Int.Digits.{digits_value-lt, digits_value_more}
use Rattle.std.proofs.lemmas.Fmt.{decimal_digit, decimal_is_IsNumeral, decimal-digits_value, length-decimal-le, first_decimal, decimal_injective}
use Rattle.cert_text.specs.Text.{IsShort, spaced, IsWord, IsPlain, Stops, Begins, AreNumbers, IsSpaced}
use Rattle.cert_text.proofs.Spacing.{first_or, rest_of, split_digits, decimal_digits}

pub few_digits : (bs : List ℕ) (i : ℕ) → AllDigits 10 (take i bs) → i ≤ length bs → i < 9 → digits_value 10 (take i bs) < 100000000
few_digits bs i digits within few =
    let below = digits_value-lt 10 (take i bs) digits in
    let short : length (take i bs) ≤ 8 = omega (arith, length-take {A = ℕ}) in
    let bound : 10 ^ length (take i bs) ≤ 10 ^ 8 = pow-le-pow_right (lit< tt) short in
    omega (arith, below, bound)

pub worth : (d : ℕ) → IsInRange 48 57 d → digit_value d ≡ d - 48
worth d inside = omega (arith, digit_value_digit d inside)

-- The number of bits in which 48 is taken from a byte is at most nine for a digit alone.
pub digit_above : (b w d : ℕ) → w ≡ b → b < 256 → d ≡ (w + (2 ^ 32 - 48)) % 2 ^ 32 → d ≤ 9 → IsInRange 48 57 b × (d ≡ b - 48)
digit_above b w d same byte taken few = omega arith

-- a front of digits, and one more
pub more_digits : (bs : List ℕ) (i v d : ℕ) → i < length bs → v ≡ digits_value 10 (take i bs) → d ≡ get_or bs i 0 - 48 → IsInRange 48 57 (get_or bs i 0)
    → v * 10 + d ≡ digits_value 10 (take (i + 1) bs)
more_digits bs i v d within value digit inside =
    omega (arith, digits_value_more 10 bs i within, worth (get_or bs i 0) inside)

-- plain digits are their number's
pub numeral_word : (word : List ℕ) (n : ℕ) → AllDigits 10 word → n ≡ digits_value 10 word → length word ≤ 9 → IsPlain word → IsShort n × (word ≡ decimal n)
numeral_word [] n digits e few plain = absurd plain
numeral_word (b ∷ bs) n digits e few plain =
    let word : List ℕ = b ∷ bs in
    let below = digits_value-lt 10 word digits in
    let bound : 10 ^ length word ≤ 10 ^ 9 = pow-le-pow_right (lit< tt) few in
    let small : digits_value 10 word < 10 ^ 9 = omega (arith, below, bound) in
    let lead : get_or word 0 0 ≡ 48 → length word ≡ 1 = λ zero_first. omega (arith, plain zero_first) in (
      omega (arith, small, e),
      sym (ap decimal e ∙ decimal-digits_value (numerals_by_value (AllDigits 10) (search rules)) word digits (omega arith) lead
          (omega (arith, small))),
    )

pub decimal_short : (n : ℕ) → IsShort n → length (decimal n) ≤ 9
decimal_short n short = length-decimal-le 9 n (omega arith) short (omega (arith, short))

pub decimal_numeral : (n : ℕ) → IsShort n → IsNumeral 10 (decimal n)
decimal_numeral n short = (decimal_is_IsNumeral n (omega (arith, short))).0

pub decimal_lead : (n : ℕ) → IsShort n → get_or (decimal n) 0 0 ≡ 48 → length (decimal n) ≡ 1
decimal_lead zero short e = ap length (decimal_digit 0 (omega arith))
decimal_lead (suc n) short e = absurd (let f = first_decimal (suc n) (omega arith) (omega (arith, short)) in omega (arith, e, f))

-- a number's digits are plain
pub decimal_plain : (word : List ℕ) (n : ℕ) → IsShort n → word ≡ decimal n → IsPlain word
decimal_plain [] n short e = let numeral = decimal_numeral n short in omega (arith, numeral.0, ap length e)
decimal_plain (b ∷ bs) n short e = λ zero_first.
    let first : get_or (decimal n) 0 0 ≡ 48 = subst (λ (w : List ℕ). get_or w 0 0 ≡ 48) e zero_first in
    omega (arith, ap length e, decimal_lead n short first)

digits_word : (bs : List ℕ) → AllDigits 10 bs → IsWord bs
digits_word [] h = tt
digits_word (b ∷ bs) h = ((digit_from_value b h.0).0, digits_word bs h.1)

-- Where as many digits as have room were taken off, a number ends where they do.
end_of_digits : (text word rest : List ℕ) (k room : ℕ) → text ≡ word ++ rest → AllDigits 10 word → Stops rest → length word ≤ room → k ≤ length text →
    AllDigits 10 (take k text)
    → (k < room → k < length text → ¬ IsInRange 48 57 (get_or text k 0)) → Stops (drop k text)
end_of_digits text [] rest zero room e w s r within digits ends = subst Stops (sym e) s
end_of_digits [] [] rest (suc k) room e w s r within digits ends = absurd (omega (arith, within))
end_of_digits (b ∷ bs) [] rest (suc k) room e w s r within digits ends =
    let low : b < 48 = subst Stops (sym e) s in
    absurd (omega (arith, low, (digit_from_value b digits.0).0))
end_of_digits [] (x ∷ word) rest k room e w s r within digits ends = absurd (omega (arith, ap length e))
end_of_digits (b ∷ bs) (x ∷ word) rest zero room e w s r within digits ends =
    let same : b ≡ x = ap (first_or 0) e in
    absurd (ends (omega (arith, r)) (omega arith) (subst (IsInRange 48 57) (sym same) (digit_from_value x w.0)))
end_of_digits (b ∷ bs) (x ∷ word) rest (suc k) zero e w s r within digits ends = absurd (omega (arith, r))
end_of_digits (b ∷ bs) (x ∷ word) rest (suc k) (suc room) e w s r within digits ends =
    end_of_digits bs word rest k room (ap rest_of e) w.1 s (omega (arith, r)) (omega (arith, within)) digits.1
    (λ few inside. ends (omega (arith, few)) (omega (arith, inside)))

stops_first : (rest : List ℕ) → Stops rest → first_or 0 rest < 48
stops_first [] h = omega arith
stops_first (b ∷ bs) h = h

spaced_stops : (ns : List ℕ) → Stops (spaced ns)
spaced_stops [] = tt
spaced_stops (n ∷ ns) = omega arith

-- Numbers begin with the first of them.
pub numbers_begin : (text ns : List ℕ) (n : ℕ) → AreNumbers text (n ∷ ns) → Begins text n (spaced ns)
numbers_begin text ns n a = record { short = a.short.0; stops = spaced_stops ns; text_is = a.text_is }

-- behind the first number
pub begins_cons : (text rest ns : List ℕ) (n : ℕ) → Begins text n rest → AreNumbers rest ns → AreNumbers text (n ∷ ns)
begins_cons text rest ns n b a = record { short = (b.short, a.short); text_is = b.text_is ∙ ap (λ r. 32 ∷ decimal n ++ r) a.text_is }

pub begins_tail : (text rest ms : List ℕ) (n m : ℕ) → Begins text n rest → AreNumbers text (m ∷ ms) → (m ≡ n) × AreNumbers rest ms
begins_tail text rest ms n m b a =
    let same : decimal n ++ rest ≡ decimal m ++ spaced ms = ap rest_of (sym b.text_is ∙ a.text_is) in
    let parts = split_digits (decimal n) (decimal m) rest (spaced ms) (decimal_digits n b.short) (decimal_digits m a.short.0) (stops_first rest b.stops)
    (stops_first (spaced ms) (spaced_stops ms)) same in
    (sym (decimal_injective n m (omega (arith, b.short)) (omega (arith, a.short.0)) parts.0), record { short = a.short.1; text_is = parts.1 })

pub begins_some : (text rest : List ℕ) (n : ℕ) → Begins text n rest → AreNumbers text [] → ⊥
begins_some text rest n b a = let e : 32 ∷ decimal n ++ rest ≡ [] = sym b.text_is ∙ a.text_is in cc

pub begins_more : (text rest : List ℕ) (n : ℕ) → Begins text n rest → IsSpaced rest ↔ IsSpaced text
begins_more text rest n b = (λ (ns, a). (n ∷ ns, begins_cons text rest ns n b a), back)
  where
    back : IsSpaced text → IsSpaced rest
    back ([], a) = absurd (begins_some text rest n b a)
    back (m ∷ ms, a) = (ms, (begins_tail text rest ms n m b a).1)

-- where no number begins, no numbers stand but none
pub none_spaced : (text : List ℕ) → 0 < length text → ((n : ℕ) (rest : List ℕ) → ¬ Begins text n rest) → IsSpaced text → ⊥
none_spaced text some never ([], a) = omega (arith, some, ap length a.text_is)
none_spaced text some never (m ∷ ms, a) = never m (spaced ms) (numbers_begin text ms m a)

pub empty_spaced : (text : List ℕ) → length text ≡ 0 → AreNumbers text []
empty_spaced [] h = record { short = tt; text_is = refl }
empty_spaced (b ∷ bs) h = absurd (omega (arith, h))

-- A text that begins with a number is cut where its digits end.
module _ (text after : List ℕ) (k : ℕ) (cut : text ≡ 32 ∷ after) (within : k ≤ length after) (digits : AllDigits 10 (take k after)) where
  pub number_stops : (rest : List ℕ) (n : ℕ) → (k < 9 → k < length after → ¬ IsInRange 48 57 (get_or after k 0)) → Begins text n rest → Stops (drop k after)
  number_stops rest n ends b =
      end_of_digits after (decimal n) rest k 9 (ap rest_of (sym cut ∙ b.text_is)) (decimal_numeral n b.short).1 b.stops
      (decimal_short n b.short) within digits ends

  pub number_plain : (rest : List ℕ) (n : ℕ) → Stops (drop k after) → Begins text n rest → IsPlain (take k after)
  number_plain rest n stops b =
      let same : take k after ++ drop k after ≡ decimal n ++ rest = take-append-drop k after ∙ ap rest_of (sym cut ∙ b.text_is) in
      decimal_plain (take k after) n b.short
      (split_digits (take k after) (decimal n) (drop k after) rest (digits_word (take k after) digits) (decimal_digits n b.short)
      (stops_first (drop k after) stops) (stops_first rest b.stops) same).0

  pub number_begins : (n : ℕ) → k ≤ 9 → n ≡ digits_value 10 (take k after) → Stops (drop k after) → IsPlain (take k after) → Begins text n (drop k after)
  number_begins n few value stops plain =
      let word = numeral_word (take k after) n digits value (omega (arith, few, length-take k after)) plain in
      record {
        short = word.0;
        stops = stops;
        text_is = cut ∙ ap (λ (xs : List ℕ). 32 ∷ xs) (sym (take-append-drop k after) ∙ ap (λ (xs : List ℕ). xs ++ drop k after) word.1);
      }
