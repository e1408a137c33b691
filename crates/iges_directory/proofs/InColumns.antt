-- A number in columns is no longer than they are.
use Rattle.std.proofs.Common.{◌≡◌, ℕ, zero, suc, ◌-◌, ◌*◌, ◌^◌, ◌<◌, ◌≤◌, Bool, true, false, cond, not, List, [], ◌∷◌, length, drop, ℤ, pos, negsuc, Option}
use Rattle.std.proofs.Common.{Some, None, refl, sym, ap, subst, ◌∙◌, arith}
use Rattle.std.specs.Prelude.{◌==◌, nat_le, slice_index, neg_ℤ, IsTrue, IfSome}
use Rattle.std.specs.Char.{is_ascii_digit}
use Rattle.std.specs.List.{list_all}
use Rattle.std.specs.Str.Parse.{digits_value, signed_digits_value, without_leading_plus, without_leading_sign, starts_with_minus}
use Rattle.std.proofs.lemmas.Bool.{and_parts, and_from, cond-true, cond-false, le-leb}
use Rattle.std.proofs.lemmas.Int.{to_z-of_z}
use Rattle.std.proofs.lemmas.List.{length-drop}
use Rattle.std.proofs.lemmas.Option.{same_Some}
use mir.Val.{SFits, of_z, to_z}
use mir.Syntax.{w64}
use Rattle.std.proofs.lemmas.Int.Digits.{digits_value-lt}
use Rattle.std.proofs.Math.Nat.{one-le-pow, pow-le-pow_right}
use Rattle.iges_base.specs.Word.{is_empty, trim, are_digits, is_integer, integer, column_number}
use Rattle.iges_base.proofs.Eight.{all_digits}
use Rattle.iges_base.proofs.Spaces.{trim_shorter}
use Rattle.iges_fields.proofs.Words.{integer_is}
use Rattle.iges_directory.specs.Bounds.{fits_columns, IsBounded}
use Rattle.iges_directory.specs.declared.entry.Placed.{Placed}
use Rattle.iges_directory.specs.Entries.{field, Holds, IsEntry}
use Rattle.iges_base.specs.InLine.{is_in_line}
use Rattle.iges_lines.proofs.InLines.{columns_in_line, columns_short}

-- ---- numbers in columns

pow_pos_10 : (k : ℕ) → 0 < 10 ^ k
pow_pos_10 k = one-le-pow k 10 (omega arith)

-- a number of at most this many digits, one fewer behind a minus
abbrev Within : ℕ → ℤ → Type 0
Within k (pos n) = n < 10 ^ suc k
Within k (negsuc n) = suc n < 10 ^ k

negative_within : (k m : ℕ) → m < 10 ^ k → Within k (neg_ℤ (pos m))
negative_within k zero h = pow_pos_10 (suc k)
negative_within k (suc m) h = h

digits_short : (w : List ℕ) (k : ℕ) → are_digits w ≡ true → length w ≤ k → digits_value 10 w < 10 ^ k
digits_short w k h le =
    let d = all_digits w (and_parts (not (is_empty w)) (list_all is_ascii_digit w) h).1 in
    omega (arith, digits_value-lt 10 w d, pow-le-pow_right {n = 10} (omega arith) le)

word_within : (k : ℕ) (w : List ℕ) → is_integer w ≡ true → length w ≤ suc k → Within k (signed_digits_value 10 w)
word_within k w h le = by_sign (starts_with_minus w) refl
  where
    by_sign : (b : Bool) → starts_with_minus w ≡ b → Within k (signed_digits_value 10 w)
    by_sign true e =
        let r : (without_leading_sign w) ≡ drop 1 w = cond-true (starts_with_minus w) (drop 1 w) (without_leading_plus w) e in
        let l : length (without_leading_sign w) ≤ k = subst (λ (x : List ℕ). length x ≤ k) (sym r) (one_less w le) in
        subst (Within k) (sym (cond-true (starts_with_minus w) (neg_ℤ (pos (digits_value 10 (without_leading_sign w))))
        (pos (digits_value 10 (without_leading_sign w))) e))
        (negative_within k (digits_value 10 (without_leading_sign w)) (digits_short (without_leading_sign w) k h l))
      where
        one_less : (x : List ℕ) → length x ≤ suc k → length (drop 1 x) ≤ k
        one_less [] a = omega arith
        one_less (b ∷ x) a = omega (arith, a)
    by_sign false e =
        let r : (without_leading_sign w) ≡ without_leading_plus w = cond-false (starts_with_minus w) (drop 1 w) (without_leading_plus w) e in
        let l : length (without_leading_sign w) ≤ suc k = subst (λ (x : List ℕ). length x ≤ suc k) (sym r)
        (omega (arith, le, length-drop (cond (slice_index w 0 == 43) 1 0) w)) in
        subst (Within k) (sym (cond-false (starts_with_minus w) (neg_ℤ (pos (digits_value 10 (without_leading_sign w))))
        (pos (digits_value 10 (without_leading_sign w))) e)) (digits_short (without_leading_sign w) (suc k) h l)

pub number_within : (k : ℕ) (field : List ℕ) (z : ℤ) → length field ≤ suc k → column_number field ≡ Some z → Within k z
number_within k field z le e = by_empty (is_empty (trim field)) refl
  where
    by_empty : (b : Bool) → is_empty (trim field) ≡ b → Within k z
    by_empty true t =
        let same : pos 0 ≡ z = same_Some (pos 0) z (sym (cond-true (is_empty (trim field)) (Some (pos 0)) (integer (trim field)) t) ∙ e) in
        subst (Within k) same (pow_pos_10 (suc k))
    by_empty false t =
        let is : integer (trim field) ≡ Some z = sym (cond-false (is_empty (trim field)) (Some (pos 0)) (integer (trim field)) t) ∙ e in
        let i = integer_is (trim field) z is in
        subst (Within k) i.1 (word_within k (trim field) i.0 (omega (arith, le, trim_shorter field)))

within_fits : (z : ℤ) → Within 7 z → fits_columns z ≡ true
within_fits (pos n) h = let low : n < 100000000 = h in le-leb n 99999999 (omega (arith, low))
within_fits (negsuc n) h = let low : suc n < 10000000 = h in and_from (nat_le n 9999998) true (le-leb n 9999998 (omega (arith, low))) refl

-- a number in eight columns fits them
pub column_fits : (field : List ℕ) (z : ℤ) → length field ≤ 8 → column_number field ≡ Some z → fits_columns z ≡ true
column_fits field z le e = within_fits z (number_within 7 field z le e)

-- a field has at most eight bytes
pub field_short : (k : ℕ) (line : List ℕ) → length (field k line) ≤ 8
field_short k line = omega (arith, columns_short (8 * k - 7) (8 * k) line)

pub some_fits : (field : List ℕ) (o : Option ℤ) → length field ≤ 8 → o ≡ column_number field → IfSome o (λ z. IsTrue (fits_columns z))
some_fits field None le e = tt
some_fits field (Some z) le e = column_fits field z le (sym e)

pub read_fits : (k : ℕ) (line : List ℕ) (z : ℤ) → SFits w64 z → Holds k line z → IsTrue (fits_columns (to_z w64 (of_z w64 z)))
read_fits k line z fits e = subst (λ (n : ℤ). IsTrue (fits_columns n)) (sym (to_z-of_z w64 z fits)) (column_fits (field k line) z (field_short k line) e)

pub read_holds : (k : ℕ) (line : List ℕ) (z : ℤ) → SFits w64 z → Holds k line z → Holds k line (to_z w64 (of_z w64 z))
read_holds k line z fits e = subst (Holds k line) (sym (to_z-of_z w64 z fits)) e

-- a number that the program has read stands in its field
pub held : (k : ℕ) (line : List ℕ) (z : ℤ) → SFits w64 z → Some z ≡ column_number (field k line) → Holds k line (to_z w64 (of_z w64 z))
held k line z fits e = subst (Holds k line) (sym (to_z-of_z w64 z fits)) (sym e)

-- ---- an entry

module _ (first second : List ℕ) (p : Placed) (in_line : is_in_line second ≡ true) (e : IsEntry first second p) where
  pub entry_bounded : IsBounded p.entry
  entry_bounded = record {
    kind = column_fits (field 1 first) _ (field_short 1 first) e.kind;
    structure = column_fits (field 3 first) _ (field_short 3 first) e.structure;
    font = column_fits (field 4 first) _ (field_short 4 first) e.font;
    level = column_fits (field 5 first) _ (field_short 5 first) e.level;
    view = column_fits (field 6 first) _ (field_short 6 first) e.view;
    matrix = column_fits (field 7 first) _ (field_short 7 first) e.matrix;
    display = column_fits (field 8 first) _ (field_short 8 first) e.display;
    weight = column_fits (field 2 second) _ (field_short 2 second) e.weight;
    colour = column_fits (field 3 second) _ (field_short 3 second) e.colour;
    form = column_fits (field 5 second) _ (field_short 5 second) e.form;
    subscript = column_fits (field 9 second) _ (field_short 9 second) e.subscript;
    status = e.status_digits;
    label = ap is_in_line e.label ∙ columns_in_line 57 64 second in_line;
  }
