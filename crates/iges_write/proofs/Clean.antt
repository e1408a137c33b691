-- The lines of a text are lines: of 72 columns, with no LF, ended by a digit.
use Rattle.std.proofs.Common.{◌≡◌, inl, inr, ℕ, zero, suc, ◌+◌, ◌-◌, ◌^◌, ◌<◌, ◌≤◌, Bool, true, false, not, List, [], ◌∷◌, ◌++◌, length, take, drop, map, ℤ}
use Rattle.std.proofs.Common.{refl, sym, ap, subst, ◌∙◌, append_assoc, arith, length-append, lit<}
use Rattle.std.specs.Prelude.{◌==◌, nat_le, nat_lt}
use Rattle.std.specs.Char.{is_ascii_digit}
use Rattle.std.specs.Fmt.{decimal, signed_decimal}
use Rattle.std.specs.List.{AllByRecursion, enumerate_from, list_all, concat}
use Rattle.std.proofs.lemmas.Bool.{and_parts, and_from, cond-true, cond-false, ne_eqb, both_ways, not-true, not_from_false, ltb-true}
use Rattle.std.proofs.lemmas.Bool.Decides.{leb_tells}
use Rattle.std.proofs.lemmas.Fmt.{length-decimal-le}
use Rattle.std.proofs.lemmas.List.{append-nil, take-append-drop, length-replicate}
use Rattle.std.proofs.lemmas.List.Folds.{list_all-append, concat-append}
use Rattle.iges_fields.specs.declared.value.Value.{Value}
use Rattle.iges_fields.specs.declared.value.Value.TheVariants as value
use Rattle.iges_base.specs.Word.{is_empty, spaces}
use Rattle.iges_fields.specs.Delims.{Delims, is_delimiter, are_permitted}
use Rattle.iges_fields.specs.FreeText.{is_delimiter_of, fits_64_bits}
use Rattle.iges_base.proofs.DigitFronts.{digit_is_not}
use Rattle.iges_base.proofs.Lists.{list_all-implies}
use Rattle.iges_fields.proofs.Words.{is_number_byte, number_byte-passes, digits_number_bytes, integer_is, integer_number_bytes, real_number_bytes}
use Rattle.iges_fields.proofs.Words.{stop_is_delimiter, end_stops, param_stops}
use Rattle.iges_base.proofs.InLines.{both_in_line}
use Rattle.iges_fields.specs.Spelled.{spelling}
use Rattle.iges_write.specs.Parts.{single_parts, word_parts, value_parts, parts}
use Rattle.iges_write.specs.Filled.{padded, IsFilled}
use Rattle.iges_write.specs.Text.{right, numbered}
use Rattle.iges_base.specs.InLine.{is_in_line}
use Rattle.iges_fields.specs.InLine.{is_value}
use Rattle.iges_write.proofs.Spelled.{integer-signed_decimal, decimal_digits}
use Rattle.iges_write.proofs.Columns.{no_LF, IsLine, right-is, AreWide}

-- ---- no LF

pub number_no_LF : (word : List ℕ) → list_all is_number_byte word ≡ true → no_LF word ≡ true
number_no_LF word h = list_all-implies is_number_byte (λ b. not (b == 10)) (number_byte-passes (λ b. not (b == 10)) (λ b e. digit_is_not 10 b refl e) refl)
    word h

pub spaces_no_LF : (n : ℕ) → no_LF (spaces n) ≡ true
spaces_no_LF zero = refl
spaces_no_LF (suc n) = spaces_no_LF n

pub in_line_no_LF : (xs : List ℕ) → is_in_line xs ≡ true → no_LF xs ≡ true
in_line_no_LF xs h = h

pub signed_no_LF : (z : ℤ) → fits_64_bits z ≡ true → no_LF (signed_decimal z) ≡ true
signed_no_LF z fits = number_no_LF (signed_decimal z)
    (integer_number_bytes (signed_decimal z) (integer_is (signed_decimal z) z (integer-signed_decimal z fits)).0)

pub decimal_no_LF : (n : ℕ) → n < 2 ^ 64 → no_LF (decimal n) ≡ true
decimal_no_LF n lt = number_no_LF (decimal n) (digits_number_bytes (decimal n) (decimal_digits n lt).0)

pub right_no_LF : (n : ℕ) (text : List ℕ) → length text ≤ n → no_LF text ≡ true → no_LF (right n text) ≡ true
right_no_LF n text le h = ap no_LF (right-is n text le) ∙ both_in_line (spaces (n - length text)) text (spaces_no_LF (n - length text)) h

spelling_no_LF : (v : Value) → is_value v ≡ true → no_LF (spelling v) ≡ true
spelling_no_LF value.Default ok = refl
spelling_no_LF (value.Int z) ok = signed_no_LF z ok
spelling_no_LF (value.Real word) ok = number_no_LF word (real_number_bytes word ok)
spelling_no_LF (value.Text text) ok =
    both_in_line (decimal (length text)) (72 ∷ text)
    (decimal_no_LF (length text) (ltb-true _ _ (and_parts (is_in_line text) (nat_lt (length text) (2 ^ 64)) ok).1))
    (in_line_no_LF text (and_parts (is_in_line text) (nat_lt (length text) (2 ^ 64)) ok).0)

stop_no_LF : (d : Delims) → are_permitted d ≡ true → (b : ℕ) → is_delimiter_of d b ≡ true → no_LF (b ∷ []) ≡ true
stop_no_LF d ok b e = and_from (not (b == 10)) true
    (not_from_false _ (ne_eqb b 10 (λ is. both_ways (is_delimiter 10) refl (subst (λ (x : ℕ). is_delimiter x ≡ true) is (stop_is_delimiter d ok b e))))) refl

-- ---- the bytes of parts

concat-singles : (bytes : List ℕ) → concat (single_parts bytes) ≡ bytes
concat-singles [] = refl
concat-singles (b ∷ bytes) = ap (λ (l : List ℕ). b ∷ l) (concat-singles bytes)

concat-word : (n : ℕ) (word : List ℕ) → concat (word_parts n word) ≡ word
concat-word n word =
    elim (leb_tells (length word) n) [
      | inl t ↦ ap concat (cond-true (nat_le (length word) n) _ _ t.0) ∙ append-nil word
      | inr t ↦ ap concat (cond-false (nat_le (length word) n) _ _ t.0) ∙ ap (λ (l : List ℕ). take n word ++ l) (concat-singles (drop n word))
          ∙ take-append-drop n word
    ]

concat-value : (n : ℕ) (v : Value) (delimiter : ℕ) → concat (value_parts n v delimiter) ≡ spelling v ++ delimiter ∷ []
concat-value n value.Default delimiter = concat-word n (delimiter ∷ [])
concat-value n (value.Int z) delimiter = concat-word n (spelling (value.Int z) ++ delimiter ∷ [])
concat-value n (value.Real word) delimiter = concat-word n (word ++ delimiter ∷ [])
concat-value n (value.Text text) delimiter =
    concat-append (word_parts n (decimal (length text) ++ 72 ∷ [])) (single_parts (text ++ delimiter ∷ []))
    ∙ ap (λ (l : List ℕ). l ++ concat (single_parts (text ++ delimiter ∷ []))) (concat-word n (decimal (length text) ++ 72 ∷ []))
    ∙ ap (λ (l : List ℕ). (decimal (length text) ++ 72 ∷ []) ++ l) (concat-singles (text ++ delimiter ∷ []))
    ∙ append_assoc (decimal (length text)) (72 ∷ []) (text ++ delimiter ∷ []) ∙ sym (append_assoc (decimal (length text)) (72 ∷ text) (delimiter ∷ []))

-- each value is one that can be written
abbrev pub AreValues : List Value → Type 0
AreValues values = list_all is_value values ≡ true

parts_no_LF : (n : ℕ) (d : Delims) (values : List Value) → are_permitted d ≡ true → AreValues values → no_LF (concat (parts n d values)) ≡ true
parts_no_LF n d [] ok h = refl
parts_no_LF n d (v ∷ []) ok h = ap no_LF (concat-value n v d.end) ∙ both_in_line (spelling v) (d.end ∷ []) (spelling_no_LF v (and_parts (is_value v) true h).0)
    (stop_no_LF d ok d.end (end_stops d ok))
parts_no_LF n d (v ∷ w ∷ values) ok h =
    ap no_LF (concat-append (value_parts n v d.param) (parts n d (w ∷ values)))
    ∙ both_in_line (concat (value_parts n v d.param)) (concat (parts n d (w ∷ values)))
    (ap no_LF (concat-value n v d.param) ∙ both_in_line (spelling v) (d.param ∷ [])
    (spelling_no_LF v (and_parts (is_value v) (list_all is_value (w ∷ values)) h).0) (stop_no_LF d ok d.param (param_stops d ok)))
    (parts_no_LF n d (w ∷ values) ok (and_parts (is_value v) (list_all is_value (w ∷ values)) h).1)

-- ---- filled lines

length-padded : (n : ℕ) (text : List ℕ) → length text ≤ n → length (padded n text) ≡ n
length-padded n text le = omega (arith, length-append text (spaces (n - length text)), length-replicate {A = ℕ} (n - length text) 32)

pub filled_wide : (n : ℕ) (ps ls : List (List ℕ)) → IsFilled n ps ls → AreWide n ls
filled_wide n ps [] f = absurd f
filled_wide n ps (line ∷ []) f = (ap length f.1 ∙ length-padded n (concat ps) f.0, tt)
filled_wide n ps (line ∷ next ∷ lines) f = (ap length f.6 ∙ length-padded n (concat f.0) f.4, filled_wide n (f.1 ∷ f.2) (next ∷ lines) f.7)

-- a line of this width without LF
pub record IsClean (n : ℕ) (l : List ℕ) : Type 0 where
  pub long : length l ≡ n
  pub no_end : no_LF l ≡ true

pub filled_clean : (n : ℕ) (ps : List (List ℕ)) (ls : List (List ℕ)) → no_LF (concat ps) ≡ true → IsFilled n ps ls → AllByRecursion (IsClean n) ls
filled_clean n ps [] h f = absurd f
filled_clean n ps (line ∷ []) h f = (
  record {
    long = ap length f.1 ∙ length-padded n (concat ps) f.0;
    no_end = ap no_LF f.1 ∙ both_in_line (concat ps) (spaces (n - length (concat ps))) h
        (spaces_no_LF (n - length (concat ps)));
  },
  tt,
)
filled_clean n ps (line ∷ next ∷ lines) h f =
    let run = f.0 in
    let all : no_LF (concat run ++ concat (f.1 ∷ f.2)) ≡ true = ap no_LF (sym (ap concat f.3 ∙ concat-append run (f.1 ∷ f.2))) ∙ h in
    let p = and_parts (no_LF (concat run)) (no_LF (concat (f.1 ∷ f.2))) (sym (list_all-append (λ b. not (b == 10)) (concat run) (concat (f.1 ∷ f.2))) ∙ all)
    in (
      record {
        long = ap length f.6 ∙ length-padded n (concat run) f.4;
        no_end = ap no_LF f.6 ∙ both_in_line (concat run) (spaces (n - length (concat run)))
            p.0 (spaces_no_LF (n - length (concat run)));
      },
      filled_clean n (f.1 ∷ f.2) (next ∷ lines) p.1 f.7,
    )

pub value_lines_clean : (n : ℕ) (d : Delims) (values : List Value) (ls : List (List ℕ)) → are_permitted d ≡ true → AreValues values
    → IsFilled n (parts n d values) ls → AllByRecursion (IsClean n) ls
value_lines_clean n d values ls ok h f = filled_clean n (parts n d values) ls (parts_no_LF n d values ok h) f

-- ---- a numbered line ends in a digit

last_of : (p : ℕ → Bool) (xs : List ℕ) → is_empty xs ≡ false → list_all p xs ≡ true → (front : List ℕ) × (last : ℕ) × (xs ≡ front ++ last ∷ [])
    × (p last ≡ true)
last_of p [] e h = absurd cc
last_of p (x ∷ []) e h = ([], x, refl, (and_parts (p x) true h).0)
last_of p (x ∷ y ∷ xs) e h =
    let more = last_of p (y ∷ xs) refl (and_parts (p x) (list_all p (y ∷ xs)) h).1 in
    (x ∷ more.0, more.1, ap (λ (l : List ℕ). x ∷ l) more.2, more.3)

pub numbered_line : (section n : ℕ) (l : List ℕ) → no_LF l ≡ true → not (section == 10) ≡ true → n < 10000000 → IsLine (l ++ section ∷ right 7 (decimal n))
numbered_line section n l clean letter small =
    let d = decimal_digits n (omega (arith, small)) in
    let few : length (decimal n) ≤ 7 = length-decimal-le 7 n (lit< tt) small (omega (arith, small)) in
    let parts = and_parts (not (is_empty (decimal n))) (list_all is_ascii_digit (decimal n)) d.0 in
    let e = last_of is_ascii_digit (decimal n) (not-true _ parts.0) parts.1 in
    let field : right 7 (decimal n) ≡ (spaces (7 - length (decimal n)) ++ e.0) ++ e.1 ∷ [] =
    right-is 7 (decimal n) few ∙ ap (λ (x : List ℕ). spaces (7 - length (decimal n)) ++ x) e.2
    ∙ sym (append_assoc (spaces (7 - length (decimal n))) e.0 (e.1 ∷ [])) in
    record {
      no_end = both_in_line l (section ∷ right 7 (decimal n)) clean
          (and_from (not (section == 10)) (no_LF (right 7 (decimal n))) letter (right_no_LF 7 (decimal n) few (decimal_no_LF n (omega (arith, small)))));
      front = l ++ section ∷ (spaces (7 - length (decimal n)) ++ e.0);
      last = e.1;
      parts = ap (λ (x : List ℕ). l ++ section ∷ x) field ∙ sym (append_assoc l (section ∷ (spaces (7 - length (decimal n)) ++ e.0)) (e.1 ∷ []));
      no_CR = not-true _ (digit_is_not 13 e.1 refl e.3);
    }

-- numbered lines are lines
pub numbered_lines : (section : ℕ) (ls : List (List ℕ)) → not (section == 10) ≡ true → AllByRecursion (IsClean 72) ls → length ls < 10000000
    → AllByRecursion IsLine (numbered section ls)
numbered_lines section ls letter h few = from 1 ls h (omega (arith, few))
  where
    from : (k : ℕ) (xs : List (List ℕ)) → AllByRecursion (IsClean 72) xs → k + length xs ≤ 10000000
        → AllByRecursion IsLine (map (λ (l : ℕ × List ℕ). l.1 ++ section ∷ right 7 (decimal l.0)) (enumerate_from k xs))
    from k [] h few = tt
    from k (x ∷ xs) h few = (numbered_line section k x h.0.no_end letter (omega (arith, few)), from (k + 1) xs h.1 (omega (arith, few)))

pub clean_wide : (n : ℕ) (ls : List (List ℕ)) → AllByRecursion (IsClean n) ls → AreWide n ls
clean_wide n [] h = tt
clean_wide n (l ∷ ls) h = (h.0.long, clean_wide n ls h.1)
