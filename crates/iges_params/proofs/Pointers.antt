-- Lines that are alike in columns 65 to 72 carry the same number.
use Rattle.std.proofs.Common.{◌≡◌, ℕ, zero, suc, ◌+◌, ◌*◌, ◌/◌, ◌%◌, ◌<◌, ◌^◌, true, List, [], ◌∷◌, take, drop, reverse, cond, ℤ, pos, Option, Some, None}
use Rattle.std.proofs.Common.{refl, sym, ap, ◌∙◌, arith, w64}
use mir.Val.{hbits, to_z}
use Rattle.std.specs.Int.{to_be_bytes}
use Rattle.std.proofs.lemmas.Int.{to_z_pos}
use Rattle.iges_lines.proofs.Walk.{is-has_number}
use Rattle.std.specs.Prelude.{IfSome}
use Rattle.std.specs.Str.Parse.{digits_value}
use Rattle.std.proofs.lemmas.Bool.{and_from}
use Rattle.iges_base.specs.Word.{after_spaces, column_number, integer, is_empty, trim}
use Rattle.iges_base.proofs.Spaces.{after_spaces-space}
use Rattle.iges_directory.proofs.FewDigits.{cons_is, is_digit, value_of, spaced}
use Rattle.iges_lines.specs.Lines.{columns, has_number}
use Rattle.iges_params.specs.Records.{points_back}

front : (xs : List ℕ) → take 7 (drop 1 xs) ≡ drop 1 (take 8 xs)
front [] = refl
front (x ∷ xs) = refl

one_more : (k : ℕ) (xs : List ℕ) → drop (suc k) xs ≡ drop 1 (drop k xs)
one_more zero xs = refl
one_more (suc k) [] = refl
one_more (suc k) (x ∷ xs) = one_more k xs

pointer_of : (line : List ℕ) → columns 66 72 line ≡ drop 1 (columns 65 72 line)
pointer_of line = ap (take 7) (one_more 64 line) ∙ front (drop 64 line)

pub alike_back : (known line : List ℕ) (number : ℕ) → columns 65 72 known ≡ columns 65 72 line → points_back number known ≡ true →
    true ≡ points_back number line
alike_back known line number same back =
    sym back ∙ ap (λ (field : List ℕ). has_number field number) (pointer_of known ∙ ap (drop 1) same ∙ sym (pointer_of line))

-- two zeros and five digits, as one number
module _ (word a b c d e : ℕ) (ha : a < 10) (hb : b < 10) (hc : c < 10) (hd : d < 10) (he : e < 10) (zeros : word / 1099511627776 % 65536 ≡ 12336)
    (is_a : word / 4294967296 % 256 ≡ 48 + a) (is_b : word / 16777216 % 256 ≡ 48 + b) (is_c : word / 65536 % 256 ≡ 48 + c) (is_d : word / 256 % 256 ≡ 48 + d)
    (is_e : word % 256 ≡ 48 + e) where
  bytes_7 : drop 1 (to_be_bytes w64 word) ≡ 48 ∷ 48 ∷ (48 + a) ∷ (48 + b) ∷ (48 + c) ∷ (48 + d) ∷ (48 + e) ∷ []
  bytes_7 =
      cons_is _ _ _ _ (omega (arith, zeros)) (cons_is _ _ _ _ (omega (arith, zeros))
      (cons_is _ _ _ _ is_a (cons_is _ _ _ _ is_b (cons_is _ _ _ _ is_c (cons_is _ _ _ _ is_d (cons_is _ _ _ _ is_e refl))))))

  value_7 : digits_value 10 (48 ∷ 48 ∷ (48 + a) ∷ (48 + b) ∷ (48 + c) ∷ (48 + d) ∷ (48 + e) ∷ []) ≡ a * 10000 + b * 1000 + c * 100 + d * 10 + e
  value_7 = omega (arith, value_of 0 (omega arith), value_of a ha, value_of b hb, value_of c hc, value_of d hd, value_of e he)

  pub five_digits : column_number (drop 1 (to_be_bytes w64 word)) ≡ Some (pos (a * 10000 + b * 1000 + c * 100 + d * 10 + e))
  five_digits =
      ap column_number bytes_7
      ∙ spaced 0 48 (48 ∷ (48 + a) ∷ (48 + b) ∷ (48 + c) ∷ (48 + d) ∷ (48 + e) ∷ [])
      (and_from _ _ refl (and_from _ _ refl (and_from _ _ (is_digit a ha)
      (and_from _ _ (is_digit b hb) (and_from _ _ (is_digit c hc) (and_from _ _ (is_digit d hd) (and_from _ _ (is_digit e he) refl))))))) refl
      ∙ ap (λ (n : ℕ). Some (pos n)) value_7

after_space : (xs : List ℕ) → column_number (32 ∷ xs) ≡ column_number xs
after_space xs =
    let trimmed : trim (32 ∷ xs) ≡ trim xs = ap (λ (t : List ℕ). reverse (after_spaces (reverse t))) (after_spaces-space xs) in
    ap (λ (w : List ℕ). cond (is_empty w) (Some (pos 0)) (integer w)) trimmed

-- a space in front may be left out
pub behind_space : (word : ℕ) (n : ℤ) → word < 2 ^ 64 → word / 72057594037927936 ≡ 32 → column_number (to_be_bytes w64 word) ≡ Some n →
    column_number (drop 1 (to_be_bytes w64 word)) ≡ Some n
behind_space word n fits space is =
    let first : word / 72057594037927936 % 256 ≡ 32 = omega (arith, space) in
    sym (ap (λ (b : ℕ). column_number (b ∷ drop 1 (to_be_bytes w64 word))) first ∙ after_space (drop 1 (to_be_bytes w64 word))) ∙ is

pub behind_space_some : (word : ℕ) (o : Option ℤ) → word < 2 ^ 64 → word / 72057594037927936 ≡ 32 →
    IfSome o (λ n. column_number (to_be_bytes w64 word) ≡ Some n) → IfSome o (λ n. column_number (drop 1 (to_be_bytes w64 word)) ≡ Some n)
behind_space_some word None fits space is = tt
behind_space_some word (Some n) fits space is = behind_space word n fits space is

-- a line whose field holds the number points back
pub carried : (line : List ℕ) (word n number : ℕ) → to_be_bytes w64 word ≡ columns 65 72 line → column_number (drop 1 (to_be_bytes w64 word)) ≡ Some (pos n) →
    n ≡ number → true ≡ points_back number line
carried line word n number bytes is same =
    let held : column_number (columns 66 72 line) ≡ Some (pos number) =
    ap column_number (pointer_of line ∙ ap (drop 1) (sym bytes)) ∙ is ∙ ap (λ (k : ℕ). Some (pos k)) same in
    sym (is-has_number (columns 66 72 line) number held)

pub carried_signed : (line : List ℕ) (word : ℕ) (z : ℤ) (number : ℕ) → number < 2 ^ 63 → to_be_bytes w64 word ≡ columns 65 72 line →
    column_number (drop 1 (to_be_bytes w64 word)) ≡ Some z → z ≡ to_z w64 number → true ≡ points_back number line
carried_signed line word z number few bytes is same =
    let small : number < 2 ^ hbits w64 = omega (arith, few) in
    carried line word number number bytes (is ∙ ap Some (same ∙ to_z_pos w64 number small)) refl
