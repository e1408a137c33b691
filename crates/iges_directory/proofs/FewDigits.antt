-- Spaces and two to six digits, as one number.
use Rattle.std.proofs.Common.{◌≡◌, ℕ, ◌+◌, ◌*◌, ◌<◌, ◌^◌, true, List, [], ◌∷◌, ◌++◌, pos, Some, refl, sym, ap, ap₂, ◌∙◌, arith, w64}
use mir.Val.{hbits, to_z}
use Rattle.std.specs.Char.{is_ascii_digit, digit_value}
use Rattle.std.specs.Int.{to_be_bytes}
use Rattle.std.specs.List.{list_all}
use Rattle.std.specs.Str.Parse.{digits_value}
use Rattle.std.proofs.lemmas.Bool.{and_from, le-leb}
use Rattle.std.proofs.lemmas.Int.{to_z_pos}
use Rattle.std.proofs.lemmas.Str.{digit_value_digit}
use Rattle.iges_base.specs.Word.{column_number, spaces, after_spaces}
use Rattle.iges_base.proofs.Columns.{spaced_digits}
use Rattle.iges_base.proofs.Spaces.{after_spaces-spaces, after_spaces-other}
use Rattle.std.proofs.lemmas.Bool.{not-true}
use Rattle.iges_base.proofs.DigitFronts.{digit_is_not}

pub cons_is : (x y : ℕ) (xs ys : List ℕ) → x ≡ y → xs ≡ ys → x ∷ xs ≡ y ∷ ys
cons_is x y xs ys e f = ap₂ (λ (z : ℕ) (zs : List ℕ). z ∷ zs) e f

pub is_digit : (e : ℕ) → e < 10 → is_ascii_digit (48 + e) ≡ true
is_digit e h = and_from _ _ (le-leb 48 (48 + e) (omega arith)) (le-leb (48 + e) 57 (omega (arith, h)))

pub value_of : (e : ℕ) → e < 10 → digit_value (48 + e) ≡ e
value_of e h = omega (arith, digit_value_digit (48 + e) (omega arith, omega (arith, h)))

-- the number of so many spaces and of digits after them
pub spaced : (n b : ℕ) (digits : List ℕ) → list_all is_ascii_digit (b ∷ digits) ≡ true → is_ascii_digit b ≡ true →
    column_number (spaces n ++ b ∷ digits) ≡ Some (pos (digits_value 10 (b ∷ digits)))
spaced n b digits all first =
    let stays : after_spaces (b ∷ digits) ≡ b ∷ digits = after_spaces-other b digits (not-true _ (digit_is_not 32 b refl first)) in
    sym (spaced_digits (spaces n ++ b ∷ digits) (b ∷ digits) (sym (after_spaces-spaces n (b ∷ digits) ∙ stays)) all)

read : (n : ℕ) → n < 1000000 → pos n ≡ to_z w64 n
read n h = let small : n < 2 ^ hbits w64 = omega (arith, h) in sym (to_z_pos w64 n small)

module _ (word a b : ℕ) (ha : a < 10) (hb : b < 10) (is : word ≡ 2314885530818457648 + a * 256 + b) where
  bytes_2 : to_be_bytes w64 word ≡ spaces 6 ++ (48 + a) ∷ (48 + b) ∷ []
  bytes_2 =
      cons_is _ _ _ _ (omega (arith, is, ha, hb)) (cons_is _ _ _ _ (omega (arith, is, ha, hb))
      (cons_is _ _ _ _ (omega (arith, is, ha, hb)) (cons_is _ _ _ _ (omega (arith, is, ha, hb))
      (cons_is _ _ _ _ (omega (arith, is, ha, hb)) (cons_is _ _ _ _ (omega (arith, is, ha, hb))
      (cons_is _ _ _ _ (omega (arith, is, ha, hb)) (cons_is _ _ _ _ (omega (arith, is, ha, hb)) refl)))))))

  value_2 : digits_value 10 ((48 + a) ∷ (48 + b) ∷ []) ≡ a * 10 + b
  value_2 = omega (arith, value_of a ha, value_of b hb)

  pub two_digits : (n : ℕ) → n ≡ a * 10 + b → column_number (to_be_bytes w64 word) ≡ Some (to_z w64 n)
  two_digits n n_is =
      ap column_number bytes_2 ∙ spaced 6 (48 + a) ((48 + b) ∷ []) (and_from _ _ (is_digit a ha) (and_from _ _ (is_digit b hb) refl)) (is_digit a ha)
      ∙ ap (λ (k : ℕ). Some (pos k)) (value_2 ∙ sym n_is) ∙ ap Some (read n (omega (arith, n_is, ha, hb)))

module _ (word a b c : ℕ) (ha : a < 10) (hb : b < 10) (hc : c < 10) (is : word ≡ 2314885530819506224 + a * 65536 + b * 256 + c) where
  bytes_3 : to_be_bytes w64 word ≡ spaces 5 ++ (48 + a) ∷ (48 + b) ∷ (48 + c) ∷ []
  bytes_3 =
      cons_is _ _ _ _ (omega (arith, is, ha, hb, hc)) (cons_is _ _ _ _ (omega (arith, is, ha, hb, hc))
      (cons_is _ _ _ _ (omega (arith, is, ha, hb, hc)) (cons_is _ _ _ _ (omega (arith, is, ha, hb, hc))
      (cons_is _ _ _ _ (omega (arith, is, ha, hb, hc)) (cons_is _ _ _ _ (omega (arith, is, ha, hb, hc))
      (cons_is _ _ _ _ (omega (arith, is, ha, hb, hc)) (cons_is _ _ _ _ (omega (arith, is, ha, hb, hc)) refl)))))))

  value_3 : digits_value 10 ((48 + a) ∷ (48 + b) ∷ (48 + c) ∷ []) ≡ a * 100 + b * 10 + c
  value_3 = omega (arith, value_of a ha, value_of b hb, value_of c hc)

  pub three_digits : (n : ℕ) → n ≡ a * 100 + b * 10 + c → column_number (to_be_bytes w64 word) ≡ Some (to_z w64 n)
  three_digits n n_is =
      ap column_number bytes_3 ∙ spaced 5 (48 + a) ((48 + b) ∷ (48 + c) ∷ [])
      (and_from _ _ (is_digit a ha) (and_from _ _ (is_digit b hb) (and_from _ _ (is_digit c hc) refl))) (is_digit a ha)
      ∙ ap (λ (k : ℕ). Some (pos k)) (value_3 ∙ sym n_is) ∙ ap Some (read n (omega (arith, n_is, ha, hb, hc)))

module _ (word a b c d : ℕ) (ha : a < 10) (hb : b < 10) (hc : c < 10) (hd : d < 10)
    (is : word ≡ 2314885531087941680 + a * 16777216 + b * 65536 + c * 256 + d) where
  bytes_4 : to_be_bytes w64 word ≡ spaces 4 ++ (48 + a) ∷ (48 + b) ∷ (48 + c) ∷ (48 + d) ∷ []
  bytes_4 =
      cons_is _ _ _ _ (omega (arith, is, ha, hb, hc, hd)) (cons_is _ _ _ _ (omega (arith, is, ha, hb, hc, hd))
      (cons_is _ _ _ _ (omega (arith, is, ha, hb, hc, hd))
      (cons_is _ _ _ _ (omega (arith, is, ha, hb, hc, hd))
      (cons_is _ _ _ _ (omega (arith, is, ha, hb, hc, hd))
      (cons_is _ _ _ _ (omega (arith, is, ha, hb, hc, hd))
      (cons_is _ _ _ _ (omega (arith, is, ha, hb, hc, hd)) (cons_is _ _ _ _ (omega (arith, is, ha, hb, hc, hd)) refl)))))))

  value_4 : digits_value 10 ((48 + a) ∷ (48 + b) ∷ (48 + c) ∷ (48 + d) ∷ []) ≡ a * 1000 + b * 100 + c * 10 + d
  value_4 = omega (arith, value_of a ha, value_of b hb, value_of c hc, value_of d hd)

  pub four_digits : (n : ℕ) → n ≡ a * 1000 + b * 100 + c * 10 + d → column_number (to_be_bytes w64 word) ≡ Some (to_z w64 n)
  four_digits n n_is =
      ap column_number bytes_4 ∙ spaced 4 (48 + a) ((48 + b) ∷ (48 + c) ∷ (48 + d) ∷ [])
      (and_from _ _ (is_digit a ha) (and_from _ _ (is_digit b hb) (and_from _ _ (is_digit c hc) (and_from _ _ (is_digit d hd) refl)))) (is_digit a ha)
      ∙ ap (λ (k : ℕ). Some (pos k)) (value_4 ∙ sym n_is) ∙ ap Some (read n (omega (arith, n_is, ha, hb, hc, hd)))

module _ (word a b c d e : ℕ) (ha : a < 10) (hb : b < 10) (hc : c < 10) (hd : d < 10) (he : e < 10)
    (is : word ≡ 2314885599807418416 + a * 4294967296 + b * 16777216 + c * 65536 + d * 256 + e) where
  bytes_5 : to_be_bytes w64 word ≡ spaces 3 ++ (48 + a) ∷ (48 + b) ∷ (48 + c) ∷ (48 + d) ∷ (48 + e) ∷ []
  bytes_5 =
      cons_is _ _ _ _ (omega (arith, is, ha, hb, hc, hd, he))
      (cons_is _ _ _ _ (omega (arith, is, ha, hb, hc, hd, he))
      (cons_is _ _ _ _ (omega (arith, is, ha, hb, hc, hd, he))
      (cons_is _ _ _ _ (omega (arith, is, ha, hb, hc, hd, he))
      (cons_is _ _ _ _ (omega (arith, is, ha, hb, hc, hd, he))
      (cons_is _ _ _ _ (omega (arith, is, ha, hb, hc, hd, he))
      (cons_is _ _ _ _ (omega (arith, is, ha, hb, hc, hd, he)) (cons_is _ _ _ _ (omega (arith, is, ha, hb, hc, hd, he)) refl)))))))

  value_5 : digits_value 10 ((48 + a) ∷ (48 + b) ∷ (48 + c) ∷ (48 + d) ∷ (48 + e) ∷ []) ≡ a * 10000 + b * 1000 + c * 100 + d * 10 + e
  value_5 = omega (arith, value_of a ha, value_of b hb, value_of c hc, value_of d hd, value_of e he)

  pub five_digits : (n : ℕ) → n ≡ a * 10000 + b * 1000 + c * 100 + d * 10 + e → column_number (to_be_bytes w64 word) ≡ Some (to_z w64 n)
  five_digits n n_is =
      ap column_number bytes_5 ∙ spaced 3 (48 + a) ((48 + b) ∷ (48 + c) ∷ (48 + d) ∷ (48 + e) ∷ [])
      (and_from _ _ (is_digit a ha) (and_from _ _ (is_digit b hb)
      (and_from _ _ (is_digit c hc) (and_from _ _ (is_digit d hd) (and_from _ _ (is_digit e he) refl))))) (is_digit a ha)
      ∙ ap (λ (k : ℕ). Some (pos k)) (value_5 ∙ sym n_is) ∙ ap Some (read n (omega (arith, n_is, ha, hb, hc, hd, he)))

module _ (word a b c d e f : ℕ) (ha : a < 10) (hb : b < 10) (hc : c < 10) (hd : d < 10) (he : e < 10) (hf : f < 10)
    (is : word ≡ 2314903191993462832 + a * 1099511627776 + b * 4294967296 + c * 16777216 + d * 65536 + e * 256 + f) where
  bytes_6 : to_be_bytes w64 word ≡ spaces 2 ++ (48 + a) ∷ (48 + b) ∷ (48 + c) ∷ (48 + d) ∷ (48 + e) ∷ (48 + f) ∷ []
  bytes_6 =
      cons_is _ _ _ _ (omega (arith, is, ha, hb, hc, hd, he, hf))
      (cons_is _ _ _ _ (omega (arith, is, ha, hb, hc, hd, he, hf))
      (cons_is _ _ _ _ (omega (arith, is, ha, hb, hc, hd, he, hf))
      (cons_is _ _ _ _ (omega (arith, is, ha, hb, hc, hd, he, hf))
      (cons_is _ _ _ _ (omega (arith, is, ha, hb, hc, hd, he, hf))
      (cons_is _ _ _ _ (omega (arith, is, ha, hb, hc, hd, he, hf))
      (cons_is _ _ _ _ (omega (arith, is, ha, hb, hc, hd, he, hf)) (cons_is _ _ _ _ (omega (arith, is, ha, hb, hc, hd, he, hf)) refl)))))))

  value_6 : digits_value 10 ((48 + a) ∷ (48 + b) ∷ (48 + c) ∷ (48 + d) ∷ (48 + e) ∷ (48 + f) ∷ []) ≡ a * 100000 + b * 10000 + c * 1000 + d * 100 + e * 10 + f
  value_6 = omega (arith, value_of a ha, value_of b hb, value_of c hc, value_of d hd, value_of e he, value_of f hf)

  pub six_digits : (n : ℕ) → n ≡ a * 100000 + b * 10000 + c * 1000 + d * 100 + e * 10 + f → column_number (to_be_bytes w64 word) ≡ Some (to_z w64 n)
  six_digits n n_is =
      ap column_number bytes_6 ∙ spaced 2 (48 + a) ((48 + b) ∷ (48 + c) ∷ (48 + d) ∷ (48 + e) ∷ (48 + f) ∷ [])
      (and_from _ _ (is_digit a ha) (and_from _ _ (is_digit b hb)
      (and_from _ _ (is_digit c hc) (and_from _ _ (is_digit d hd) (and_from _ _ (is_digit e he) (and_from _ _ (is_digit f hf) refl)))))) (is_digit a ha)
      ∙ ap (λ (k : ℕ). Some (pos k)) (value_6 ∙ sym n_is) ∙ ap Some (read n (omega (arith, n_is, ha, hb, hc, hd, he, hf)))
