-- What stands in columns is read from them.
use Rattle.std.proofs.Common.{◌≡◌, ℕ, zero, suc, ◌+◌, ◌-◌, ◌<◌, ◌≤◌, Bool, true, false, cond, not, List, [], ◌∷◌, ◌++◌, length, take, drop, map, ℤ, pos, negsuc}
use Rattle.std.proofs.Common.{Some, refl, sym, ap, subst, ◌∙◌, append_assoc, arith, length-append, lit<}
use Rattle.std.specs.Prelude.{◌==◌, nat_le, slice_index, flat_map}
use Rattle.std.specs.Fmt.{decimal, signed_decimal}
use Rattle.std.specs.List.{AllByRecursion, enumerate_from, list_all, concat}
use Rattle.std.specs.Str.Lines.{strip_carriage_return}
use Rattle.std.proofs.lemmas.Bool.{and_parts, and_from, cond-false, leb-true, le-leb, not-true}
use Rattle.std.proofs.lemmas.Fmt.{length-decimal-le}
use Rattle.std.proofs.lemmas.List.{append-nil, take_at, drop_at, take_all, length-drop, length-replicate}
use Rattle.iges_base.specs.Word.{is_empty, is_space, spaces, trim, is_integer, integer, column_number}
use Rattle.iges_fields.specs.FreeText.{fits_64_bits}
use Rattle.iges_base.proofs.Spaces.{trim-word, has_no_space}
use Rattle.iges_base.proofs.Lists.{list_all-implies}
use Rattle.iges_fields.proofs.Words.{is_number_byte, number_byte_no_space, integer_is, integer_number_bytes}
use Rattle.iges_fields.proofs.Steps.{nonempty}
use Rattle.iges_lines.specs.Lines.{columns, pieces, cut, lines}
use Rattle.iges_lines.specs.Sectioned.{IsNumbered, AreNumbered}
use Rattle.iges_write.specs.Text.{right, numbered}
use Rattle.iges_directory.specs.Bounds.{fits_columns}
use Rattle.iges_write.proofs.Spelled.{integer-signed_decimal}

-- ---- a text at the right

pub length-right : (n : ℕ) (text : List ℕ) → length (right n text) ≡ n
length-right n text = omega (arith, length-drop (length text) (spaces n ++ text), length-append (spaces n) text, length-replicate {A = ℕ} n 32)

-- what is dropped from the spaces
drop-spaces : (k n : ℕ) (text : List ℕ) → k ≤ n → drop k (spaces n ++ text) ≡ spaces (n - k) ++ text
drop-spaces zero n text le = ap (λ (m : ℕ). spaces m ++ text) (omega arith)
drop-spaces (suc k) zero text le = absurd (omega arith)
drop-spaces (suc k) (suc n) text le = drop-spaces k n text (omega arith) ∙ ap (λ (m : ℕ). spaces m ++ text) (omega arith)

pub right-is : (n : ℕ) (text : List ℕ) → length text ≤ n → right n text ≡ spaces (n - length text) ++ text
right-is n text le = drop-spaces (length text) n text le

-- an integer's word at the right is its number
right_integer : (n : ℕ) (word : List ℕ) (z : ℤ) → length word ≤ n → integer word ≡ Some z → is_integer word ≡ true → column_number (right n word) ≡ Some z
right_integer n word z le e i =
    let none : has_no_space word ≡ true = list_all-implies is_number_byte (λ b. not (is_space b)) number_byte_no_space word (integer_number_bytes word i) in
    let trimmed : trim (right n word) ≡ word = ap trim (right-is n word le ∙ sym (append-nil (spaces (n - length word) ++ word)))
    ∙ trim-word (n - length word) 0 word none in
    ap (λ (w : List ℕ). cond (is_empty w) (Some (pos 0)) (integer w)) trimmed ∙ cond-false (is_empty word) _ _ (nonempty is_integer refl word i) ∙ e

pub right_signed : (n : ℕ) (z : ℤ) → length (signed_decimal z) ≤ n → fits_64_bits z ≡ true → column_number (right n (signed_decimal z)) ≡ Some z
right_signed n z le fits = let e = integer-signed_decimal z fits in right_integer n (signed_decimal z) z le e (integer_is (signed_decimal z) z e).0

small_fits : (m : ℕ) → m < 9223372036854775807 → fits_64_bits (pos m) ≡ true
small_fits m lt = le-leb m 9223372036854775807 (omega (arith, lt))

-- seven columns
pub right_7 : (m : ℕ) → m < 10000000 → column_number (right 7 (decimal m)) ≡ Some (pos m)
right_7 m lt = right_signed 7 (pos m) (length-decimal-le 7 m (lit< tt) lt (omega (arith, lt))) (small_fits m (omega (arith, lt)))

-- eight columns
pub right_8 : (z : ℤ) → fits_columns z ≡ true → column_number (right 8 (signed_decimal z)) ≡ Some z
right_8 (pos m) h =
    let lt : m ≤ 99999999 = leb-true m 99999999 h in
    right_signed 8 (pos m) (length-decimal-le 8 m (lit< tt) (omega (arith, lt)) (omega (arith, lt))) (small_fits m (omega (arith, lt)))
right_8 (negsuc m) h =
    let lt : m ≤ 9999998 = leb-true m 9999998 (and_parts (nat_le m 9999998) true h).0 in
    let few : length (decimal (suc m)) ≤ 7 = length-decimal-le 7 (suc m) (lit< tt) (omega (arith, lt)) (omega (arith, lt)) in
    right_signed 8 (negsuc m) (omega (arith, few)) (and_from (nat_le m 9223372036854775807) true (le-leb m 9223372036854775807 (omega (arith, lt))) refl)

-- ---- a numbered line

pub get-behind : (xs : List ℕ) (b : ℕ) (rest : List ℕ) (n : ℕ) → length xs ≡ n → slice_index (xs ++ b ∷ rest) n ≡ b
get-behind xs b rest n is = subst (λ (k : ℕ). slice_index (xs ++ b ∷ rest) k ≡ b) is (at_end xs)
  where
    at_end : (ys : List ℕ) → slice_index (ys ++ b ∷ rest) (length ys) ≡ b
    at_end [] = refl
    at_end (y ∷ ys) = at_end ys

abbrev pub line_of : ℕ → ℕ → List ℕ → List ℕ
line_of section n l = l ++ section ∷ right 7 (decimal n)

pub line_numbered : (section n : ℕ) (l : List ℕ) → length l ≡ 72 → n < 10000000 → IsNumbered section n (line_of section n l)
line_numbered section n l long small =
    let r = right 7 (decimal n) in
    let len : length r ≡ 7 = length-right 7 (decimal n) in
    let field : columns 74 80 (l ++ section ∷ r) ≡ r =
    ap (take 7) (ap (drop 73) (sym (append_assoc l (section ∷ []) r)) ∙ drop_at (l ++ section ∷ []) r 73 (omega (arith, length-append l (section ∷ []), long)))
    ∙ take_all 7 r (omega (arith, len)) in
    record {
      long = omega (arith, length-append l (section ∷ r), long, len);
      letter_is = get-behind l section r 72 long;
      number_is = ap column_number field ∙ right_7 n small;
    }

pub columns-front : (l rest : List ℕ) → length l ≡ 72 → columns 1 72 (l ++ rest) ≡ l
columns-front l rest long = take_at l rest 72 long

-- all lines of n columns
abbrev pub AreWide : ℕ → List (List ℕ) → Type 0
AreWide n ls = AllByRecursion (λ (l : List ℕ). length l ≡ n) ls

abbrev pub Are72 : List (List ℕ) → Type 0
Are72 ls = AreWide 72 ls

abbrev pub numbered_from : ℕ → ℕ → List (List ℕ) → List (List ℕ)
numbered_from section k ls = map (λ (l : ℕ × List ℕ). l.1 ++ section ∷ right 7 (decimal l.0)) (enumerate_from k ls)

pub numbered_are : (section k : ℕ) (ls : List (List ℕ)) → Are72 ls → k + length ls ≤ 10000000
    → AllByRecursion (λ (l : ℕ × List ℕ). IsNumbered section l.0 l.1) (enumerate_from k (numbered_from section k ls))
numbered_are section k [] h few = tt
numbered_are section k (l ∷ ls) h few = (line_numbered section k l h.0 (omega (arith, few)), numbered_are section (k + 1) ls h.1 (omega (arith, few)))

pub numbered-AreNumbered : (section : ℕ) (ls : List (List ℕ)) → Are72 ls → length ls < 10000000 → AreNumbered section (numbered section ls)
numbered-AreNumbered section ls h few = numbered_are section 1 ls h (omega (arith, few))

pub numbered_columns : (section k : ℕ) (ls : List (List ℕ)) → Are72 ls → map (columns 1 72) (numbered_from section k ls) ≡ ls
numbered_columns section k [] h = refl
numbered_columns section k (l ∷ ls) h = ap (λ (x : List ℕ). x ∷ map (columns 1 72) (numbered_from section (k + 1) ls))
    (columns-front l (section ∷ right 7 (decimal k)) h.0) ∙ ap (λ (x : List (List ℕ)). l ∷ x) (numbered_columns section (k + 1) ls h.1)

pub columns-numbered : (section : ℕ) (ls : List (List ℕ)) → Are72 ls → map (columns 1 72) (numbered section ls) ≡ ls
columns-numbered section ls h = numbered_columns section 1 ls h

flat-map : (ls : List (List ℕ)) → flat_map (columns 1 72) ls ≡ concat (map (columns 1 72) ls)
flat-map [] = refl
flat-map (l ∷ ls) = ap (λ (x : List ℕ). columns 1 72 l ++ x) (flat-map ls)

pub text-numbered : (section : ℕ) (ls : List (List ℕ)) → Are72 ls → flat_map (columns 1 72) (numbered section ls) ≡ concat ls
text-numbered section ls h = flat-map (numbered section ls) ∙ ap concat (columns-numbered section ls h)

pub length-numbered_from : (section k : ℕ) (ls : List (List ℕ)) → length (numbered_from section k ls) ≡ length ls
length-numbered_from section k [] = refl
length-numbered_from section k (l ∷ ls) = ap suc (length-numbered_from section (k + 1) ls)

pub length-numbered : (section : ℕ) (ls : List (List ℕ)) → length (numbered section ls) ≡ length ls
length-numbered section ls = length-numbered_from section 1 ls

-- ---- lines ended by LF

abbrev pub no_LF : List ℕ → Bool
no_LF l = list_all (λ b. not (b == 10)) l

pieces-line : (l rest : List ℕ) → no_LF l ≡ true → pieces (l ++ 10 ∷ rest) ≡ l ∷ pieces rest
pieces-line [] rest h = refl
pieces-line (b ∷ l) rest h =
    let p = and_parts (not (b == 10)) (no_LF l) h in
    ap (cut b) (pieces-line l rest p.1) ∙ cond-false (b == 10) _ _ (not-true _ p.0)

-- a line without LF that ends in another byte than CR
pub record IsLine (l : List ℕ) : Type 0 where
  pub no_end : no_LF l ≡ true
  pub front : List ℕ
  pub last : ℕ
  pub parts : l ≡ front ++ last ∷ []
  pub no_CR : (last == 13) ≡ false

strip-line : (l : List ℕ) → IsLine l → strip_carriage_return l ≡ l
strip-line l h =
    let at : slice_index l (length l - 1) ≡ h.last = ap (λ (x : List ℕ). slice_index x (length l - 1)) h.parts ∙ get-behind h.front h.last [] (length l - 1)
    (omega (arith, ap length h.parts, length-append h.front (h.last ∷ []))) in
    cond-false (slice_index l (length l - 1) == 13) _ _ (ap (λ (b : ℕ). b == 13) at ∙ h.no_CR)

pub lines-text : (ls : List (List ℕ)) → AllByRecursion IsLine ls → lines (flat_map (λ (l : List ℕ). l ++ 10 ∷ []) ls) ≡ ls
lines-text [] h = refl
lines-text (l ∷ ls) h =
    let rest = flat_map (λ (x : List ℕ). x ++ 10 ∷ []) ls in
    ap lines (append_assoc l (10 ∷ []) rest) ∙ ap (map strip_carriage_return) (pieces-line l rest h.0.no_end)
    ∙ ap (λ (x : List ℕ). x ∷ lines rest) (strip-line l h.0) ∙ ap (λ (x : List (List ℕ)). l ∷ x) (lines-text ls h.1)
