-- What a word is, by the mantissa behind its sign.
use Rattle.std.proofs.Common.{◌≡◌, inl, inr, ℕ, ◌-◌, ◌<◌, ◌≤◌, Bool, true, false, cond, not, ◌&&◌, List, [], ◌∷◌, ◌++◌, length, take, drop, get_or, refl, sym}
use Rattle.std.proofs.Common.{ap, subst, ◌∙◌, arith}
use Rattle.std.specs.Prelude.{count_by, take_while, nat_le}
use Rattle.std.specs.Char.{is_ascii_digit}
use Rattle.std.specs.List.{list_all, list_any}
use Rattle.std.specs.Str.Parse.{digits_value, without_leading_sign}
use Rattle.std.proofs.lemmas.Bool.{and_parts, and_from, and_left, and_right, or_left, or_right, or_cases, cases_Bool, both_ways, eqb-true, false_from_ne_true}
use Rattle.std.proofs.lemmas.Bool.{not-true, not_from_true, not_from_false, cond-true, cond-false, le-leb}
use Rattle.std.proofs.Math.Seq.{drop-cons}
use Rattle.std.proofs.lemmas.List.{drop_all, drop_at, take_all, take-append-drop, take_rest}
use Rattle.std.proofs.lemmas.List.Folds.{length-prefix_len, list_all-append}
use Rattle.iges_base.specs.declared.mantissa.Mantissa.{Mantissa}
use Rattle.iges_fields.specs.declared.kind.WordKind.{WordKind}
use Rattle.iges_fields.specs.declared.kind.WordKind.TheVariants as kind
use Rattle.iges_fields.specs.Gives.{IsKindOf}
use Rattle.iges_base.specs.RealParts.{is_mantissa_byte, up_to_past, IsMantissa}
use Rattle.iges_base.specs.Word.{is_empty, are_digits, is_integer}
use Rattle.iges_base.specs.Reals.{is_point, is_exponent_letter, is_mantissa, is_real}
use Rattle.iges_base.proofs.Lists.{prefix_len-pass, take_while-front, list_all-implies}
use Rattle.iges_base.proofs.Mantissas.{count_point, mantissa_bytes}
use Rattle.iges_base.proofs.DigitFronts.{digit_is_not}
use Rattle.iges_fields.proofs.Words.{digits_all, no_letter, no_point, real_no_integer, stop_is}

-- ---- bytes

abbrev no_exponent : ℕ → Bool
no_exponent b = not (is_exponent_letter b)

pub mantissa_no_letter : (b : ℕ) → is_mantissa_byte b ≡ true → no_exponent b ≡ true
mantissa_no_letter b e = elim (or_cases (is_ascii_digit b) (is_point b) e)
    [ inl h ↦ no_letter b h | inr h ↦ subst (λ (x : ℕ). no_exponent x ≡ true) (sym (eqb-true b 46 h)) refl ]

pub digit_mantissa : (b : ℕ) → is_ascii_digit b ≡ true → is_mantissa_byte b ≡ true
digit_mantissa b e = or_left (is_ascii_digit b) (is_point b) e

pub no_points : (ds : List ℕ) → list_all is_ascii_digit ds ≡ true → count_by is_point ds ≡ 0
no_points [] all = refl
no_points (x ∷ ds) all =
    let parts = and_parts (is_ascii_digit x) (list_all is_ascii_digit ds) all in
    let none : cond {A = ℕ} (is_point x) 1 0 ≡ 0 = cond-false (is_point x) 1 0 (not-true _ (digit_is_not 46 x refl parts.0)) in
    omega (arith, count_point x ds, none, no_points ds parts.1)

-- digits and no point are digits
pub only_digits : (xs : List ℕ) → list_all is_mantissa_byte xs ≡ true → count_by is_point xs ≡ 0 → list_all is_ascii_digit xs ≡ true
only_digits [] all none = refl
only_digits (x ∷ xs) all none =
    let parts = and_parts (is_mantissa_byte x) (list_all is_mantissa_byte xs) all in
    elim (or_cases (is_ascii_digit x) (is_point x) parts.0) [
      | inl e ↦ and_from (is_ascii_digit x) (list_all is_ascii_digit xs) e (only_digits xs parts.1 (omega (arith, count_point x xs, none)))
      | inr e ↦ let one : cond {A = ℕ} (is_point x) 1 0 ≡ 1 = cond-true (is_point x) 1 0 e in absurd (omega (arith, count_point x xs, none, one))
    ]

some_point : (xs : List ℕ) → 0 < count_by is_point xs → list_any is_point xs ≡ true
some_point [] some = absurd (omega (arith, some))
some_point (x ∷ xs) some =
    elim (cases_Bool (is_point x)) [
      | inl e ↦ or_left (is_point x) (list_any is_point xs) e
      | inr e ↦
          let none : cond {A = ℕ} (is_point x) 1 0 ≡ 0 = cond-false (is_point x) 1 0 e in
          or_right (is_point x) (list_any is_point xs) (some_point xs (omega (arith, count_point x xs, none, some)))
    ]

-- ---- digits and points alone

digits_are_mantissa : (u : List ℕ) → are_digits u ≡ true → is_mantissa u ≡ true
digits_are_mantissa [] h = absurd cc
digits_are_mantissa (x ∷ u) h =
    let parts = and_parts (is_ascii_digit x) (list_all is_ascii_digit u) h in
    and_from (list_all is_mantissa_byte (x ∷ u) && list_any is_ascii_digit (x ∷ u)) (nat_le (count_by is_point (x ∷ u)) 1)
    (and_from (list_all is_mantissa_byte (x ∷ u)) (list_any is_ascii_digit (x ∷ u)) (list_all-implies is_ascii_digit is_mantissa_byte digit_mantissa (x ∷ u) h)
    (or_left (is_ascii_digit x) (list_any is_ascii_digit u) parts.0))
    (le-leb (count_by is_point (x ∷ u)) 1 (omega (arith, no_points (x ∷ u) h)))

-- a real's test, where this is its mantissa
abbrev real_by : List ℕ → List ℕ → Bool
real_by u front = let exponent = drop (length front) u in is_mantissa front && cond (is_empty exponent) (list_any is_point front) (is_integer (drop 1 exponent))

integer_no_real : (word : List ℕ) → is_integer word ≡ true → is_real word ≡ false
integer_no_real word i = false_from_ne_true (is_real word) (λ r. both_ways (is_integer word) (real_no_integer word r) i)

module _ (word : List ℕ) where
  abbrev u : List ℕ
  u = without_leading_sign word

  pub plain_real_is : list_all is_mantissa_byte u ≡ true → is_real word ≡ (is_mantissa u && list_any is_point u)
  plain_real_is all =
      ap (real_by u) (digits_all no_exponent u (list_all-implies is_mantissa_byte no_exponent mantissa_no_letter u all))
      ∙ ap (λ (e : List ℕ). is_mantissa u && cond (is_empty e) (list_any is_point u) (is_integer (drop 1 e))) (drop_all (length u) u (omega arith))

  no_integer : is_mantissa u ≡ false → is_integer word ≡ false
  no_integer e = false_from_ne_true (is_integer word) (λ h. both_ways (is_mantissa u) e (digits_are_mantissa u h))

  module _ (m : Mantissa) (is : IsMantissa u m) (all : m.len ≡ length u) where
    whole : take m.len u ≡ u
    whole = ap (λ (n : ℕ). take n u) all ∙ take_all (length u) u (omega arith)

    bytes : list_all is_mantissa_byte u ≡ true
    bytes = ap (list_all is_mantissa_byte) (sym whole) ∙ mantissa_bytes u m is

    pub neither : false ≡ is_mantissa (take m.len u) → (is_integer word ≡ false) × (is_real word ≡ false)
    neither e =
        let none : is_mantissa u ≡ false = ap is_mantissa (sym whole) ∙ sym e in
        (no_integer none, plain_real_is bytes ∙ and_left (is_mantissa u) _ none)

    pub whole_number : true ≡ is_mantissa (take m.len u) → m.points ≡ 0 → is_integer word ≡ true
    whole_number e none =
        let valid : is_mantissa u ≡ true = ap is_mantissa (sym whole) ∙ sym e in
        and_from (not (is_empty u)) (list_all is_ascii_digit u) (some u valid)
        (only_digits u bytes (ap (count_by is_point) (sym whole) ∙ sym is.points ∙ none))
      where
        some : (xs : List ℕ) → is_mantissa xs ≡ true → not (is_empty xs) ≡ true
        some [] h = absurd cc
        some (x ∷ xs) h = refl

    pub number_value : m.points ≡ 0 → m.value ≡ up_to_past (digits_value 10 u)
    number_value none = is.value none ∙ ap (λ (t : List ℕ). up_to_past (digits_value 10 t)) whole

    pub plain_real : true ≡ is_mantissa (take m.len u) → 0 < m.points → (is_integer word ≡ false) × (is_real word ≡ true)
    plain_real e some =
        let valid : is_mantissa u ≡ true = ap is_mantissa (sym whole) ∙ sym e in
        let point : list_any is_point u ≡ true = some_point u (omega (arith, some, is.points, ap (count_by is_point) whole)) in (
          false_from_ne_true (is_integer word) (λ h. both_ways (list_any is_point u)
              (no_point u (and_parts (not (is_empty u)) (list_all is_ascii_digit u) h).1) point),
          plain_real_is bytes ∙ and_from (is_mantissa u) (list_any is_point u) valid point,
        )

  -- ---- an exponent

  take_while-more : (q : ℕ → Bool) (xs : List ℕ) (x : ℕ) (ys : List ℕ) → list_all q xs ≡ true → q x ≡ true →
      take_while q (xs ++ x ∷ ys) ≡ xs ++ x ∷ take_while q ys
  take_while-more q [] x ys all e = ap (λ (n : ℕ). take n (x ∷ ys)) (prefix_len-pass q x ys e)
  take_while-more q (y ∷ xs) x ys all e =
      let parts = and_parts (q y) (list_all q xs) all in
      ap (λ (n : ℕ). take n (y ∷ xs ++ x ∷ ys)) (prefix_len-pass q y (xs ++ x ∷ ys) parts.0) ∙ ap (λ (t : List ℕ). y ∷ t) (take_while-more q xs x ys parts.1 e)

  fails_inside : (p : ℕ → Bool) (xs : List ℕ) (x : ℕ) (ys : List ℕ) → p x ≡ false → list_all p (xs ++ x ∷ ys) ≡ false
  fails_inside p xs x ys e = list_all-append p xs (x ∷ ys) ∙ and_right (list_all p xs) (list_all p (x ∷ ys)) (and_left (p x) (list_all p ys) e)

  pub real_behind : (xs : List ℕ) (x : ℕ) (ys : List ℕ) → u ≡ xs ++ x ∷ ys → list_all is_mantissa_byte xs ≡ true → is_mantissa_byte x ≡ false
      → is_real word ≡ (is_mantissa xs && (is_exponent_letter x && is_integer ys))
  real_behind xs x ys split all stop =
      let letters = list_all-implies is_mantissa_byte no_exponent mantissa_no_letter xs all in
      elim (cases_Bool (is_exponent_letter x)) [
        | inl e ↦
            ap (real_by u) (ap (take_while no_exponent) split ∙ take_while-front no_exponent xs x ys letters (not_from_true _ e))
            ∙ ap (λ (t : List ℕ). is_mantissa xs && cond (is_empty t) (list_any is_point xs) (is_integer (drop 1 t)))
            (ap (drop (length xs)) split ∙ drop_at xs (x ∷ ys) (length xs) refl)
            ∙ ap (λ (b : Bool). is_mantissa xs && (b && is_integer ys)) (sym e)
        | inr e ↦
            let front : take_while no_exponent u ≡ xs ++ x ∷ take_while no_exponent ys =
            ap (take_while no_exponent) split ∙ take_while-more no_exponent xs x ys letters (not_from_false _ e) in
            ap (real_by u) front
            ∙ and_left (is_mantissa (xs ++ x ∷ take_while no_exponent ys)) _
            (and_left (list_all is_mantissa_byte (xs ++ x ∷ take_while no_exponent ys) && _) _
            (and_left (list_all is_mantissa_byte (xs ++ x ∷ take_while no_exponent ys)) _
            (fails_inside is_mantissa_byte xs x (take_while no_exponent ys) stop)))
            ∙ sym (and_right (is_mantissa xs) (is_exponent_letter x && is_integer ys) (and_left (is_exponent_letter x) (is_integer ys) e))
      ]

  -- the same of what a call took for u: behind its mantissa stand a byte and more
  module _ (v : List ℕ) (v-is : v ≡ without_leading_sign word) (m : Mantissa) (is : IsMantissa v m) (behind : List ℕ) (behind-is : behind ≡ drop m.len v)
      (some : 1 ≤ length behind) where
    abbrev first : ℕ
    first = get_or behind 0 0

    abbrev power : List ℕ
    power = take (length behind - 1) (drop 1 behind)

    behind-cons : behind ≡ first ∷ power
    behind-cons = drop-cons behind 0 0 (omega (arith, some)) ∙ ap (λ (t : List ℕ). first ∷ t) (sym (take_rest behind 1))

    split : v ≡ take m.len v ++ first ∷ power
    split = sym (take-append-drop m.len v) ∙ ap (λ (t : List ℕ). take m.len v ++ t) (sym behind-is ∙ behind-cons)

    stop : is_mantissa_byte first ≡ false
    stop =
        stop_is is_mantissa_byte v first power
        (ap (λ (n : ℕ). drop n v) (length-prefix_len is_mantissa_byte v ∙ sym is.len) ∙ sym behind-is ∙ behind-cons)

    no_integer_behind : is_integer word ≡ false
    no_integer_behind =
        and_right (not (is_empty u)) (list_all is_ascii_digit u)
        (ap (list_all is_ascii_digit) (sym v-is ∙ split) ∙ fails_inside is_ascii_digit (take m.len v) first power
        (false_from_ne_true (is_ascii_digit first) (λ h. both_ways (is_mantissa_byte first) stop (digit_mantissa first h))))

    real_is : is_real word ≡ (is_mantissa (take m.len v) && (is_exponent_letter first && is_integer power))
    real_is = real_behind (take m.len v) first power (sym v-is ∙ split) (mantissa_bytes v m is) stop

    pub with_exponent : (valid exponent : Bool) → valid ≡ true → ((text : List ℕ) → IsMantissa text m → valid ≡ is_mantissa (take m.len text)) →
        exponent ≡ true → exponent ≡ (is_exponent_letter first && is_integer power) → (is_integer word ≡ false) × (is_real word ≡ true)
    with_exponent valid exponent v-true v-valid e-true e-is = (no_integer_behind, real_is ∙ and_from _ _ (sym (v-valid v is) ∙ v-true) (sym e-is ∙ e-true))

    pub no_exponent_behind : (exponent : Bool) → exponent ≡ false → exponent ≡ (is_exponent_letter first && is_integer power) →
        (is_integer word ≡ false) × (is_real word ≡ false)
    no_exponent_behind exponent e-false e-is = (no_integer_behind, real_is ∙ and_right (is_mantissa (take m.len v)) _ (sym e-is ∙ e-false))

    pub no_mantissa : (valid : Bool) → valid ≡ false → ((text : List ℕ) → IsMantissa text m → valid ≡ is_mantissa (take m.len text)) →
        (is_integer word ≡ false) × (is_real word ≡ false)
    no_mantissa valid v-false v-valid = (no_integer_behind, real_is ∙ and_left (is_mantissa (take m.len v)) _ (sym (v-valid v is) ∙ v-false))

-- a word of another kind is no real
pub other_kind : (word : List ℕ) (k : WordKind) → IsKindOf word k → (k ≡ kind.Real → ⊥) → is_real word ≡ false
other_kind word (kind.Whole n) is other = integer_no_real word is.0
other_kind word kind.TooLarge is other = integer_no_real word is.0
other_kind word kind.Real is other = absurd (other refl)
other_kind word kind.Neither is other = is.1
