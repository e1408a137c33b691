-- The digits at the front of a text, one after the other.
use Rattle.std.proofs.Common.{◌≡◌, ℕ, suc, ◌+◌, ◌-◌, ◌*◌, ◌%◌, ◌^◌, ◌<◌, ◌≤◌, true, List, length, get_or, refl, ap, ◌∙◌, arith}
use Rattle.std.specs.Char.{is_ascii_digit}
use Rattle.std.proofs.Math.Nat.{pow-le-pow_right, pow-suc}
use Rattle.std.proofs.lemmas.Bool.{and_from, le-leb}
use Rattle.std.proofs.lemmas.Int.Digits.{digits_value_more}
use Rattle.std.proofs.lemmas.List.Folds.{list_all_more}
use Rattle.std.proofs.lemmas.Str.{digit_value_digit}
use Rattle.iges_base.specs.FrontDigits.{AreLeadingDigits, IsDigitsSoFar}
use Rattle.iges_base.specs.declared.leading_digits.LeadingDigits.{LeadingDigits}
use Rattle.iges_base.proofs.DigitFronts.{digit_range}

-- a byte less 48, wrapped to 64 bits, where that is no more than 9
pub digit_from : (byte digit : ℕ) → byte < 18446744073709551616 → digit ≡ (byte + 18446744073709551568) % 18446744073709551616 → digit ≤ 9 →
    (is_ascii_digit byte ≡ true) × (digit ≡ byte - 48)
digit_from byte digit few is small = (
  and_from _ _ (le-leb 48 byte (omega (arith, few, is, small))) (le-leb byte 57 (omega (arith, few, is, small))),
  omega (arith, few, is, small),
)

pub no_digits_yet : (text : List ℕ) → IsDigitsSoFar text 0 0
no_digits_yet text = record { within = omega arith; most = omega arith; all = refl; is = refl; few = omega arith }

powers : (n : ℕ) → n ≤ 18 → 10 ^ n ≤ 10 ^ 18
powers n h = pow-le-pow_right (omega arith) h

pub digits_few : (text : List ℕ) (len value : ℕ) → IsDigitsSoFar text len value → value < 10 ^ 18
digits_few text len value so_far = let p = powers len so_far.most in omega (arith, so_far.few, p)

pub so_far_are : (text : List ℕ) (ds : LeadingDigits) → IsDigitsSoFar text ds.len ds.value → AreLeadingDigits text ds
so_far_are text ds so_far = record { within = so_far.within; all = so_far.all; value = so_far.is; few = digits_few text ds.len ds.value so_far }

module _ (text : List ℕ) (len value : ℕ) (so_far : IsDigitsSoFar text len value) (h : len < length text) (m : len < 18)
    (e : is_ascii_digit (get_or text len 0) ≡ true) where
  abbrev byte : ℕ
  byte = get_or text len 0

  pub digit_small : byte - 48 ≤ 9
  digit_small = let range = digit_range byte e in omega (arith, range.0, range.1)

  pub digit_next : IsDigitsSoFar text (len + 1) (value * 10 + (byte - 48))
  digit_next =
      let range = digit_range byte e in
      let more = digits_value_more 10 text len h in
      let worth = digit_value_digit byte range in
      let small = digit_small in
      let ten : 10 ^ (len + 1) ≡ 10 ^ len * 10 = power_next len in
      record {
        within = omega (arith, h);
        most = omega (arith, m);
        all = list_all_more is_ascii_digit text len 0 h ∙ and_from _ _ so_far.all e;
        is = omega (arith, more, worth, so_far.is);
        few = omega (arith, so_far.few, small, ten);
      }
    where
      power_next : (n : ℕ) → 10 ^ (n + 1) ≡ 10 ^ n * 10
      power_next n = let next : n + 1 ≡ suc n = omega arith in ap (λ (m : ℕ). 10 ^ m) next ∙ pow-suc 10 n
