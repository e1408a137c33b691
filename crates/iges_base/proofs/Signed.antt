-- Words without their sign, and exponents.
use Rattle.std.proofs.Common.{◌≡◌, inl, inr, ℕ, zero, suc, ◌+◌, ◌-◌, ◌<◌, ◌≤◌, true, false, not, List, [], ◌∷◌, ◌++◌, length, take, drop}
use Rattle.std.proofs.Common.{get_or, refl, sym, ap, subst, ◌∙◌, arith, length-append}
use Rattle.std.specs.Prelude.{◌==◌}
use Rattle.std.specs.Char.{is_ascii_digit}
use Rattle.std.specs.List.{list_all}
use Rattle.std.specs.Str.Parse.{digits_value, without_leading_sign, without_leading_plus}
use Rattle.std.proofs.Math.Seq.{drop-cons}
use Rattle.std.proofs.lemmas.Bool.{and_from, cases_Bool, cond-true, cond-false}
use Rattle.std.proofs.lemmas.List.{drop_at, take_at, take-append-drop, take-take, length-take-le, length-drop}
use Rattle.iges_base.specs.declared.leading_digits.LeadingDigits.{LeadingDigits}
use Rattle.iges_base.specs.FrontDigits.{AreLeadingDigits}
use Rattle.iges_base.specs.RealParts.{is_power}
use Rattle.iges_base.specs.Reals.{is_exponent_letter}
use Rattle.iges_base.specs.Word.{are_digits, is_empty, is_integer}

-- ---- behind a sign

minus_is : (b : ℕ) (t : List ℕ) → (b == 45) ≡ true → without_leading_sign (b ∷ t) ≡ t
minus_is b t e = cond-true (b == 45) t (without_leading_plus (b ∷ t)) e

plus_is : (b : ℕ) (t : List ℕ) → (b == 45) ≡ false → (b == 43) ≡ true → without_leading_sign (b ∷ t) ≡ t
plus_is b t e f = cond-false (b == 45) t (without_leading_plus (b ∷ t)) e ∙ ap (λ (n : ℕ). drop n (b ∷ t)) (cond-true (b == 43) 1 0 f)

pub other_is : (b : ℕ) (t : List ℕ) → (b == 45) ≡ false → (b == 43) ≡ false → without_leading_sign (b ∷ t) ≡ b ∷ t
other_is b t e f = cond-false (b == 45) t (without_leading_plus (b ∷ t)) e ∙ ap (λ (n : ℕ). drop n (b ∷ t)) (cond-false (b == 43) 1 0 f)

front_other : (b : ℕ) (t w rest : List ℕ) → (b == 45) ≡ false → (b == 43) ≡ false → (b ∷ t) ≡ w ++ rest → without_leading_sign w ≡ w
front_other b t [] rest e f split = refl
front_other b t (c ∷ w) rest e f split = let same : b ≡ c = cc in other_is c w (subst (λ (x : ℕ). (x == 45) ≡ false) same e)
    (subst (λ (x : ℕ). (x == 43) ≡ false) same f)

nothing : (w rest : List ℕ) → [] ≡ w ++ rest → w ≡ []
nothing [] rest e = refl
nothing (x ∷ w) rest e = absurd cc

take_nothing : (n : ℕ) → take {A = ℕ} n [] ≡ []
take_nothing zero = refl
take_nothing (suc n) = refl

drop_nothing : (n : ℕ) → drop {A = ℕ} n [] ≡ []
drop_nothing zero = refl
drop_nothing (suc n) = refl

-- behind the sign of a front stand the front's other bytes
pub front_unsigned : (body w rest : List ℕ) → without_leading_sign body ≡ w ++ rest → without_leading_sign (take (length body - length rest) body) ≡ w
front_unsigned [] w rest split = ap without_leading_sign (take_nothing (0 - length rest)) ∙ sym (nothing w rest split)
front_unsigned (b ∷ t) w rest split =
    elim (cases_Bool (b == 45)) [
      | inl e ↦ behind_sign (minus_is b t e) (minus_is b (take (length w) t) e)
      | inr e ↦ elim (cases_Bool (b == 43)) [
        | inl f ↦ behind_sign (plus_is b t e f) (plus_is b (take (length w) t) e f)
        | inr f ↦
            let whole : (b ∷ t) ≡ w ++ rest = sym (other_is b t e f) ∙ split in
            let n-is : length (b ∷ t) - length rest ≡ length w = omega (arith, ap length whole, length-append w rest) in
            ap (λ (n : ℕ). without_leading_sign (take n (b ∷ t))) n-is
            ∙ ap without_leading_sign (ap (take (length w)) whole ∙ take_at w rest (length w) refl)
            ∙ front_other b t w rest e f whole
      ]
    ]
  where
    behind_sign : without_leading_sign (b ∷ t) ≡ t → without_leading_sign (b ∷ take (length w) t) ≡ take (length w) t →
        without_leading_sign (take (length (b ∷ t) - length rest) (b ∷ t)) ≡ w
    behind_sign all front =
        let whole : t ≡ w ++ rest = sym all ∙ split in
        let n-is : length (b ∷ t) - length rest ≡ suc (length w) = omega (arith, ap length whole, length-append w rest) in
        ap (λ (n : ℕ). without_leading_sign (take n (b ∷ t))) n-is ∙ front ∙ ap (take (length w)) whole ∙ take_at w rest (length w) refl

pub front_behind : (body w rest : List ℕ) → without_leading_sign body ≡ w ++ rest → drop (length body - length rest) body ≡ rest
front_behind [] w rest split = drop_nothing (0 - length rest) ∙ (split ∙ ap (λ (t : List ℕ). t ++ rest) (nothing w rest split))
front_behind (b ∷ t) w rest split =
    elim (cases_Bool (b == 45)) [
      | inl e ↦ behind_sign (minus_is b t e)
      | inr e ↦ elim (cases_Bool (b == 43)) [
        | inl f ↦ behind_sign (plus_is b t e f)
        | inr f ↦
            let whole : (b ∷ t) ≡ w ++ rest = sym (other_is b t e f) ∙ split in
            let n-is : length (b ∷ t) - length rest ≡ length w = omega (arith, ap length whole, length-append w rest) in
            ap (λ (n : ℕ). drop n (b ∷ t)) n-is ∙ ap (drop (length w)) whole ∙ drop_at w rest (length w) refl
      ]
    ]
  where
    behind_sign : without_leading_sign (b ∷ t) ≡ t → drop (length (b ∷ t) - length rest) (b ∷ t) ≡ rest
    behind_sign all =
        let whole : t ≡ w ++ rest = sym all ∙ split in
        let n-is : length (b ∷ t) - length rest ≡ suc (length w) = omega (arith, ap length whole, length-append w rest) in
        ap (λ (n : ℕ). drop n (b ∷ t)) n-is ∙ ap (drop (length w)) whole ∙ drop_at w rest (length w) refl

-- the byte behind a front
pub front_stop : (body w rest : List ℕ) → without_leading_sign body ≡ w ++ rest → 1 ≤ length rest → length rest ≤ length body →
    get_or body (length body - length rest) 0 ≡ get_or rest 0 0
front_stop body w rest split some few =
    let n = length body - length rest in
    ap (λ (t : List ℕ). get_or t 0 0) (sym (drop-cons body n 0 (omega (arith, some, few))) ∙ front_behind body w rest split)

pub unsigned_within : (body : List ℕ) → length (without_leading_sign body) ≤ length body
unsigned_within [] = omega arith
unsigned_within (b ∷ t) =
    elim (cases_Bool (b == 45)) [
      | inl e ↦ omega (arith, ap length (minus_is b t e))
      | inr e ↦ elim (cases_Bool (b == 43)) [
        | inl f ↦ omega (arith, ap length (plus_is b t e f))
        | inr f ↦ omega (arith, ap length (other_is b t e f))
      ]
    ]

-- the front of a body whose first bytes behind its sign are these
module _ (body u : List ℕ) (u-is : u ≡ without_leading_sign body) (n : ℕ) (rest : List ℕ) (rest-is : rest ≡ drop n u) where
  pub front_is : without_leading_sign (take (length body - length rest) body) ≡ take n u
  front_is = front_unsigned body (take n u) rest (sym u-is ∙ sym (take-append-drop n u) ∙ ap (λ (t : List ℕ). take n u ++ t) (sym rest-is))

  pub stop_is : 1 ≤ length rest → get_or body (length body - length rest) 0 ≡ get_or rest 0 0
  stop_is some =
      front_stop body (take n u) rest (sym u-is ∙ sym (take-append-drop n u) ∙ ap (λ (t : List ℕ). take n u ++ t) (sym rest-is)) some
      (omega (arith, ap length rest-is, length-drop n u, ap length u-is, unsigned_within body))

  pub front_digits : (ds : LeadingDigits) → ds.len ≡ n → AreLeadingDigits u ds → AreLeadingDigits (without_leading_sign (take (length body - length rest) body)) ds
  front_digits ds len-is are =
      let w = without_leading_sign (take (length body - length rest) body) in
      let same : take ds.len w ≡ take ds.len u = ap (take ds.len) front_is ∙ take-take ds.len n u (omega (arith, len-is)) in
      let long : length w ≡ ds.len = ap length front_is ∙ ap (λ (m : ℕ). length (take m u)) (sym len-is) ∙ length-take-le ds.len u are.within in
      record {
        within = omega (arith, long);
        all = ap (list_all is_ascii_digit) same ∙ are.all;
        value = are.value ∙ ap (digits_value 10) (sym same);
        few = are.few;
      }

  pub front_long : (ds : LeadingDigits) → ds.len ≡ n → AreLeadingDigits u ds → ds.len ≡ length (without_leading_sign (take (length body - length rest) body))
  front_long ds len-is are = sym (ap length front_is ∙ ap (λ (m : ℕ). length (take m u)) (sym len-is) ∙ length-take-le ds.len u are.within)

-- ---- exponents

pub some_digits : (xs : List ℕ) → 0 < length xs → list_all is_ascii_digit xs ≡ true → are_digits xs ≡ true
some_digits [] some all = absurd (omega (arith, some))
some_digits (x ∷ xs) some all = and_from (not (is_empty (x ∷ xs))) (list_all is_ascii_digit (x ∷ xs)) refl all

-- a letter, and digits behind a sign
pub power_is : (text power u : List ℕ) (n : ℕ) → (1 ≤ length text) → power ≡ drop 1 text → u ≡ without_leading_sign power →
    is_exponent_letter (get_or text 0 0) ≡ true → 0 < n → n ≤ length u → list_all is_ascii_digit (take n u) ≡ true
    → is_power (take (length text - length u + n) text) ≡ true
power_is [] power u n some power-is u-is letter more within all = absurd (omega (arith, some))
power_is (b ∷ text) power u n some power-is u-is letter more within all =
    let shorter : length u ≤ length text = omega (arith, ap length u-is, unsigned_within power, ap length power-is) in
    let size-is : length (b ∷ text) - length u + n ≡ suc (length text - length (drop n u)) = omega (arith, length-drop n u, shorter, within) in
    let digits : without_leading_sign (take (length text - length (drop n u)) text) ≡ take n u =
    ap (λ (t : List ℕ). without_leading_sign (take (length t - length (drop n u)) t)) (sym power-is) ∙ front_is power u u-is n (drop n u) refl in
    ap (λ (m : ℕ). is_power (take m (b ∷ text))) size-is
    ∙ and_from (is_exponent_letter b) (is_integer (take (length text - length (drop n u)) text)) letter
    (ap are_digits digits ∙ some_digits (take n u) (omega (arith, more, length-take-le n u within)) all)
