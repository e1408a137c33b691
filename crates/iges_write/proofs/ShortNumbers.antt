-- Numbers of few digits.
use Rattle.std.proofs.Common.{◌≡◌, ℕ, ◌+◌, ◌<◌, ◌≤◌, ◌/◌, ◌%◌, List, [], ◌∷◌, ◌++◌, length, sym, ap, subst, ◌∙◌, arith, Result}
use Rattle.std.specs.Fmt.{decimal}
use Rattle.std.proofs.lemmas.Fmt.{decimal_digit, decimal_step}
use Rattle.iges_write.specs.declared.fault.WriteFileFault.{WriteFileFault}
use Rattle.iges_write.specs.Parts.{word_parts}
use Rattle.iges_write.specs.Sheet.{Sheet, Steps, put_part, put_parts}
use Rattle.iges_write.proofs.Sheets.{word_is_part}

-- a part that is a word
pub as_word : {A : Type 0} (r : Result A WriteFileFault) (s t : Sheet) (part word : List ℕ) → part ≡ word → length part ≤ s.width → Steps r t (put_part s part)
    → Steps r t (put_parts s (word_parts s.width word))
as_word r s t part word e few h =
    subst (λ (u : Sheet). Steps r t u) (ap (put_part s) e ∙ word_is_part s word (omega (arith, few, ap length e))) h

-- the last digit behind those before it
more : (n a : ℕ) (front : List ℕ) → 10 ≤ n → n < 1000000 → decimal (n / 10) ≡ front → a ≡ 48 + n % 10 → decimal n ≡ front ++ a ∷ []
more n a front ge lt e ea =
    decimal_step n ge (omega (arith, lt)) ∙ ap (λ (x : List ℕ). x ++ (48 + n % 10) ∷ []) e ∙ ap (λ (b : ℕ). front ++ b ∷ []) (sym ea)

pub one_digit : (n a : ℕ) → n < 10 → a ≡ 48 + n → decimal n ≡ a ∷ []
one_digit n a lt ea = decimal_digit n lt ∙ ap (λ (b : ℕ). b ∷ []) (sym ea)

pub two_digits : (n a b : ℕ) → 10 ≤ n → n < 100 → a ≡ 48 + n / 10 → b ≡ 48 + n % 10 → decimal n ≡ a ∷ b ∷ []
two_digits n a b ge lt ea eb = more n b (a ∷ []) ge (omega (arith, lt)) (one_digit (n / 10) a (omega (arith, lt)) ea) eb

pub three_digits : (n a b c : ℕ) → 100 ≤ n → n < 1000 → a ≡ 48 + n / 10 / 10 → b ≡ 48 + n / 10 % 10 → c ≡ 48 + n % 10 → decimal n ≡ a ∷ b ∷ c ∷ []
three_digits n a b c ge lt ea eb ec =
    more n c (a ∷ b ∷ []) (omega (arith, ge)) (omega (arith, lt)) (two_digits (n / 10) a b (omega (arith, ge)) (omega (arith, lt)) ea eb) ec

pub four_digits : (n a b c d : ℕ) → 1000 ≤ n → n < 10000 → a ≡ 48 + n / 10 / 10 / 10 → b ≡ 48 + n / 10 / 10 % 10 → c ≡ 48 + n / 10 % 10 → d ≡ 48 + n % 10
    → decimal n ≡ a ∷ b ∷ c ∷ d ∷ []
four_digits n a b c d ge lt ea eb ec ed =
    more n d (a ∷ b ∷ c ∷ []) (omega (arith, ge)) (omega (arith, lt)) (three_digits (n / 10) a b c (omega (arith, ge)) (omega (arith, lt)) ea eb ec) ed

pub five_digits : (n a b c d e : ℕ) → 10000 ≤ n → n < 100000 → a ≡ 48 + n / 10 / 10 / 10 / 10 → b ≡ 48 + n / 10 / 10 / 10 % 10 → c ≡ 48 + n / 10 / 10 % 10
    → d ≡ 48 + n / 10 % 10 → e ≡ 48 + n % 10 → decimal n ≡ a ∷ b ∷ c ∷ d ∷ e ∷ []
five_digits n a b c d e ge lt ea eb ec ed ee =
    more n e (a ∷ b ∷ c ∷ d ∷ []) (omega (arith, ge)) (omega (arith, lt)) (four_digits (n / 10) a b c d (omega (arith, ge)) (omega (arith, lt)) ea eb ec ed) ee
