-- Marked bytes: where a text ends, and what it is.
use Rattle.std.proofs.Common.{◌≡◌, ℕ, ◌<◌, List, [], ◌∷◌, ◌++◌, length, drop, get_or, refl, ap, ◌∙◌, arith}
use Rattle.std.specs.List.{AllZip}
use Rattle.iges_fields.specs.declared.value.Value.{Value}
use Rattle.equal_values.specs.Canonical.{canonical}
use Rattle.equal_values.specs.Equal.{AreEqualValues}
use Rattle.equal_values.specs.Keys.{marked, key_of, keys_of}
use Rattle.equal_values.proofs.Texts.{texts_decide}

pub marks_part : (a b x y : List ℕ) → marked a ++ x ≡ marked b ++ y → (a ≡ b) × (x ≡ y)
marks_part [] [] x y e = (refl, ap (drop 1) e)
marks_part [] (c ∷ b) x y e = absurd (let no = ap (λ (t : List ℕ). get_or t 0 0) e in omega (arith, no))
marks_part (c ∷ a) [] x y e = absurd (let no = ap (λ (t : List ℕ). get_or t 0 0) e in omega (arith, no))
marks_part (c ∷ a) (d ∷ b) x y e =
    let more = marks_part a b x y (ap (drop 2) e) in
    let one : c ≡ d = ap (λ (t : List ℕ). get_or t 1 0) e in
    (ap (λ (n : ℕ). n ∷ a) one ∙ ap (λ (t : List ℕ). d ∷ t) more.0, more.1)

key_some : (v : Value) (x : List ℕ) → 0 < length (key_of v ++ x)
key_some v x = some (canonical v)
  where
    some : (t : List ℕ) → 0 < length (marked t ++ x)
    some [] = omega arith
    some (b ∷ t) = omega arith

pub lists_decide : (these those : List Value) → (keys_of these ≡ keys_of those → AllZip AreEqualValues these those) × (AllZip AreEqualValues these those → keys_of these ≡ keys_of those)
lists_decide [] [] = (λ _. tt, λ _. refl)
lists_decide [] (b ∷ those) = (λ e. absurd (let some = key_some b (keys_of those) in let none = ap length e in omega (arith, some, none)), λ h. absurd h)
lists_decide (a ∷ these) [] = (λ e. absurd (let some = key_some a (keys_of these) in let none = ap length e in omega (arith, some, none)), λ h. absurd h)
lists_decide (a ∷ these) (b ∷ those) = (
  λ e.
      let parts = marks_part (canonical a) (canonical b) (keys_of these) (keys_of those) e in
      ((texts_decide a b).0 parts.0, (lists_decide these those).0 parts.1),
  λ h.
      ap (λ (t : List ℕ). marked t ++ keys_of these) ((texts_decide a b).1 h.0)
      ∙ ap (λ (t : List ℕ). key_of b ++ t) ((lists_decide these those).1 h.1),
)
