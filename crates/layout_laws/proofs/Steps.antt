-- A line of a section, and the sections with it.
use Rattle.std.proofs.Common.{◌≡◌, inl, inr, ℕ, ◌+◌, ◌<◌, true, false, not, List, [], ◌∷◌, ◌++◌, length, get_or, take, drop, pos, Option, Some, None, Ok, Err, refl}
use Rattle.std.proofs.Common.{sym, ap, subst, ◌∙◌, append_assoc, arith, length-append}
use Rattle.std.specs.Prelude.{◌&&◌, ◌==◌}
use Rattle.std.specs.Fmt.{decimal}
use Rattle.std.specs.List.{AllByRecursion, enumerate_from}
use Rattle.std.specs.Option.{option_map_or}
use Rattle.std.proofs.lemmas.Bool.{and_parts, and_from, cases_Bool, cond-true, cond-false, eq-eqb, eqb-true, eqb-false, ne_eqb, lt-ltb, ltb-true, not-true}
use Rattle.std.proofs.lemmas.Bool.{not_from_false}
use Rattle.std.proofs.lemmas.List.{append-nil, take-append-drop, drop_more, drop_all}
use Rattle.iges_base.specs.Ended.{ended}
use Rattle.iges_base.specs.InLine.{is_in_line}
use Rattle.iges_base.proofs.Lists.{list_all-both, list_all-take}
use Rattle.iges_base.specs.Word.{column_number, spaces}
use Rattle.iges_base.proofs.Tests.{passes, passed}
use Rattle.iges_base.proofs.Lists.{list_all-implies}
use Rattle.iges_lines.specs.Lines.{SectionLines, joined}
use Rattle.iges_lines.specs.Sectioned.{IsNumbered, AreNumbered, IsCount, IsTerminate}
use Rattle.iges_write.proofs.Columns.{IsLine, right_7}
use Rattle.line_layout.specs.declared.counting.LineCounts.{LineCounts}
use Rattle.line_layout.specs.declared.judging.Judged.{Judged}
use Rattle.line_layout.specs.declared.judging.Judged.TheVariants.{Good}
use Rattle.line_layout.specs.declared.letters.Section.{Section}
use Rattle.line_layout.specs.declared.letters.Section.TheVariants.{Start, Global, Directory, Param, Terminate}
use Rattle.line_layout.specs.declared.strays.Stray.{Stray}
use Rattle.line_layout.specs.Columns.{columns, has_count, has_number, number_in}
use Rattle.line_layout.specs.Counts.{count_of, next_number, counted, is_in_order, is_due, AreFew}
use Rattle.line_layout.specs.Judging.{letter, lines_after, section_tests, section_fault, judge}
use Rattle.line_layout.specs.Letters.{letter_of, is_last}
use Rattle.line_layout.specs.Marks.{is_blank, unmarked}
use Rattle.line_layout.specs.Relaid.{Laid, before, step, laid, relaid, unless_shuffled}
use Rattle.line_layout.specs.Rows.{right, count_field, counts_columns, has_counts, content, number_field, row}
use Rattle.line_layout.specs.Strays.{shuffled_line, stray_at, strays_from, unless_placed}
use Rattle.line_layout.proofs.GoodLines.{judged_good}
use Rattle.line_layout.proofs.Looping.{laid_lines, strays_in}
use Rattle.layout_laws.specs.Counted.{counts_of}
use Rattle.layout_laws.proofs.FieldBytes.{is_field_byte, number_bytes, has_number-is}
use Rattle.layout_laws.proofs.Parts.{line_of, length_is, letter_is, field_is}
use Rattle.layout_laws.proofs.Rows.{IsRow, kept_good, placed, same_row}
use Rattle.layout_laws.proofs.Shifted.{differs, all_at}

abbrev pub Lines : Type 0
Lines = List (List ℕ)

-- ---- a row as a line of a section

module _ (c : LineCounts) (s : Section) (r : List ℕ) (w : IsRow c s r) where
  whole : r ≡ line_of w.front (letter_of s) w.field []
  whole = w.parts ∙ ap (λ (f : List ℕ). w.front ++ letter_of s ∷ f) (sym (append-nil w.field))

  pub row_numbered : IsNumbered (letter_of s) (next_number c s) r
  row_numbered = record {
    long = let long : length r ≡ 80 + length {A = ℕ} [] = ap length whole ∙ length_is w.front w.field [] (letter_of s) w.long w.seven in omega (arith, long);
    letter_is = ap letter whole ∙ letter_is w.front w.field [] (letter_of s) w.long w.seven;
    number_is = ap column_number (ap (columns 74 80) whole ∙ field_is w.front w.field [] (letter_of s) w.long w.seven) ∙ w.number;
  }

  -- its last byte is no CR
  pub row_line : is_in_line r ≡ true → IsLine r
  row_line inside =
      let last = get_or w.field 6 0 in
      let seven = w.seven in
      let bytes = number_bytes w.field _ w.number in
      let behind : drop 6 w.field ≡ last ∷ [] = drop_more w.field 6 0 (omega (arith, seven))
      ∙ ap (λ (l : List ℕ). last ∷ l) (drop_all 7 w.field (omega (arith, seven))) in
      let split : w.field ≡ take 6 w.field ++ last ∷ [] = sym (take-append-drop 6 w.field) ∙ ap (λ (l : List ℕ). take 6 w.field ++ l) behind in
      record {
        no_end = inside;
        front = w.front ++ letter_of s ∷ take 6 w.field;
        last = last;
        parts = w.parts ∙ ap (λ (f : List ℕ). w.front ++ letter_of s ∷ f) split ∙ sym (append_assoc w.front (letter_of s ∷ take 6 w.field) (last ∷ []));
        no_CR = differs is_field_byte last 13 (all_at is_field_byte w.field 6 (omega (arith, seven)) bytes) refl;
      }

count_is : (x n : ℕ) (f : List ℕ) → has_count x n f ≡ true → IsCount x n f
count_is x n f e = let p = and_parts _ (has_number (drop 1 f) n) e in (eqb-true _ _ p.0, has_number-is (drop 1 f) n p.1)

pub row_terminate : (t : SectionLines) (r : List ℕ) → IsRow (counts_of t) Terminate r → IsTerminate t r
row_terminate t r w =
    let c = counts_of t in
    let a = and_parts (has_count 83 c.start (columns 1 8 r) && has_count 71 c.global (columns 9 16 r) && has_count 68 c.directory (columns 17 24 r))
    (has_count 80 c.param (columns 25 32 r)) (w.counts refl) in
    let b = and_parts (has_count 83 c.start (columns 1 8 r) && has_count 71 c.global (columns 9 16 r)) (has_count 68 c.directory (columns 17 24 r)) a.0 in
    let d = and_parts (has_count 83 c.start (columns 1 8 r)) (has_count 71 c.global (columns 9 16 r)) b.0 in
    record {
      numbered = row_numbered c Terminate r w;
      start = count_is 83 c.start (columns 1 8 r) d.0;
      global = count_is 71 c.global (columns 9 16 r) d.1;
      directory = count_is 68 c.directory (columns 17 24 r) b.1;
      param = count_is 80 c.param (columns 25 32 r) a.1;
    }

-- ---- a row has no LF

field_in_line : (b : ℕ) → is_field_byte b ≡ true → not (b == 10) ≡ true
field_in_line b h = not_from_false (b == 10) (differs is_field_byte b 10 h refl)

number_in_line : (n : ℕ) (field : List ℕ) → column_number field ≡ Some (pos n) → is_in_line field ≡ true
number_in_line n field e = list_all-implies is_field_byte (λ b. not (b == 10)) field_in_line field (number_bytes field (pos n) e)

right_in_line : (n : ℕ) → n < 10000000 → is_in_line (right 7 (decimal n)) ≡ true
right_in_line n small = number_in_line n (right 7 (decimal n)) (right_7 n small)

count_in_line : (x n : ℕ) → not (x == 10) ≡ true → n < 10000000 → is_in_line (count_field x n) ≡ true
count_in_line x n e small = and_from (not (x == 10)) (is_in_line (right 7 (decimal n))) e (right_in_line n small)

counts_in_line : (c : LineCounts) → AreFew c → is_in_line (counts_columns c) ≡ true
unfolding counts_columns
counts_in_line c few =
    let s = few.start in
    let g = few.global in
    let d = few.directory in
    let p = few.param in
    let q = λ (b : ℕ). not (b == 10) in
    list_all-both q (count_field 83 c.start ++ count_field 71 c.global ++ count_field 68 c.directory ++ count_field 80 c.param) (spaces 40)
    (list_all-both q (count_field 83 c.start ++ count_field 71 c.global ++ count_field 68 c.directory) (count_field 80 c.param)
    (list_all-both q (count_field 83 c.start ++ count_field 71 c.global) (count_field 68 c.directory)
    (list_all-both q (count_field 83 c.start) (count_field 71 c.global) (count_in_line 83 c.start refl (omega (arith, s)))
    (count_in_line 71 c.global refl (omega (arith, g))))
    (count_in_line 68 c.directory refl (omega (arith, d)))) (count_in_line 80 c.param refl (omega (arith, p)))) refl

content_in_line : (c : LineCounts) (s : Section) (line : List ℕ) → AreFew c → is_in_line line ≡ true → is_in_line (content c s line) ≡ true
unfolding content
content_in_line c Start line few h = list_all-take (λ b. not (b == 10)) 72 line h
content_in_line c Global line few h = list_all-take (λ b. not (b == 10)) 72 line h
content_in_line c Directory line few h = list_all-take (λ b. not (b == 10)) 72 line h
content_in_line c Param line few h = list_all-take (λ b. not (b == 10)) 72 line h
content_in_line c Terminate line few h = elim (cases_Bool (has_counts c line)) [
  | inl t ↦ ap is_in_line (cond-true (has_counts c line) (columns 1 72 line) (counts_columns c) t) ∙ list_all-take (λ b. not (b == 10)) 72 line h
  | inr f ↦ ap is_in_line (cond-false (has_counts c line) (columns 1 72 line) (counts_columns c) f) ∙ counts_in_line c few
]

letter_in_line : (s : Section) → not (letter_of s == 10) ≡ true
letter_in_line Start = refl
letter_in_line Global = refl
letter_in_line Directory = refl
letter_in_line Param = refl
letter_in_line Terminate = refl

pub row_in_line : (c : LineCounts) (s : Section) (line : List ℕ) → AreFew c → is_in_line line ≡ true
    → column_number (number_field (next_number c s) line) ≡ Some (pos (next_number c s)) → is_in_line (row c s line) ≡ true
unfolding row
row_in_line c s line few h e =
    let n = next_number c s in
    list_all-both (λ b. not (b == 10)) (content c s line) (letter_of s ∷ number_field n line) (content_in_line c s line few h)
    (and_from (not (letter_of s == 10)) (is_in_line (number_field n line)) (letter_in_line s) (number_in_line n (number_field n line) e))

-- ---- one step

pub step_more : (n : ℕ) (c : LineCounts) (line : List ℕ) (s : Section) (go : LineCounts → Laid) → is_last s ≡ false
    → step n c line (Good s) go ≡ before (ended (row c s line)) (go (counted c s))
step_more n c line Start go e = refl
step_more n c line Global go e = refl
step_more n c line Directory go e = refl
step_more n c line Param go e = refl
step_more n c line Terminate go e = absurd cc

module _ (ps : Lines) (n : ℕ) (c : LineCounts) (s : Section) (r tail piece : List ℕ) (is : piece ≡ r ++ tail) (blank : is_blank tail ≡ true) (w : IsRow c s r)
    (fits : section_fault c s ≡ None) where
  judged : judge c piece ≡ Good s
  judged = judged_good c piece s (kept_good c s r tail piece is blank w fits)

  pub kept_more : is_last s ≡ false → laid (piece ∷ ps) n c ≡ before (ended r) (laid ps (n + 1) (counted c s))
  unfolding laid
  kept_more e =
      ap (λ (j : Judged). step n c (unmarked piece) j (laid ps (n + 1))) judged
      ∙ step_more n c (unmarked piece) s (laid ps (n + 1)) e
      ∙ ap (λ (x : List ℕ). before (ended x) (laid ps (n + 1) (counted c s))) (same_row c s r tail piece is blank w)

  no_stray : stray_at n c (unmarked piece) (Good s) ≡ []
  no_stray =
      let found = number_in (columns 74 80 (unmarked piece)) in
      let stray : Stray = record { line = n; letter = letter_of s; place = next_number c s; number = found } in
      elim (cases_Bool (is_last s)) [
        | inl t ↦ cond-true (is_last s) [] (unless_placed stray) t
        | inr f ↦ cond-false (is_last s) [] (unless_placed stray) f
            ∙ cond-true (found == next_number c s) [] (stray ∷ []) (eq-eqb found (next_number c s) (placed c s r tail piece is blank w))
      ]

  -- its number is its place
  abbrev further : Option LineCounts → List Stray
  further o = option_map_or (strays_from ps (n + 1)) o []

  none_here : strays_from (piece ∷ ps) n c ≡ further (lines_after c (Good s))
  unfolding strays_from
  none_here = ap (λ (j : Judged). stray_at n c (unmarked piece) j ++ further (lines_after c j)) judged
      ∙ ap (λ (rs : List Stray). rs ++ further (lines_after c (Good s))) no_stray

  pub kept_placed : is_last s ≡ false → strays_from (piece ∷ ps) n c ≡ strays_from ps (n + 1) (counted c s)
  kept_placed e = none_here ∙ ap further (cond-false (is_last s) None (Some (counted c s)) e)

  pub last_placed : is_last s ≡ true → strays_from (piece ∷ ps) n c ≡ []
  last_placed e = none_here ∙ ap further (cond-true (is_last s) None (Some (counted c s)) e)

pub kept_last : (ps : Lines) (n : ℕ) (c : LineCounts) (r tail piece : List ℕ) → piece ≡ r ++ tail → is_blank tail ≡ true → IsRow c Terminate r
    → section_fault c Terminate ≡ None
    → laid (piece ∷ ps) n c ≡ Ok (ended r)
unfolding laid
kept_last ps n c r tail piece is blank w fits =
    ap (λ (j : Judged). step n c (unmarked piece) j (laid ps (n + 1))) (judged_good c piece Terminate (kept_good c Terminate r tail piece is blank w fits))
    ∙ ap (λ (x : List ℕ). Ok (ended x)) (same_row c Terminate r tail piece is blank w)

-- ---- what fits

pub record Fits (c : LineCounts) (s : Section) : Type 0 where
  pub in_order : is_in_order c s ≡ true
  pub due : is_due c s ≡ true
  pub few : count_of c s < 9999999

pub fits_is : (c : LineCounts) (s : Section) → section_fault c s ≡ None → Fits c s
unfolding section_fault
fits_is c s e = let p = passes (section_tests c s) e in record { in_order = p.0; due = p.1.0; few = ltb-true (count_of c s) 9999999 p.1.1.0 }

pub fits_from : (c : LineCounts) (s : Section) → Fits c s → section_fault c s ≡ None
unfolding section_fault
fits_from c s h = passed (section_tests c s) (h.in_order, (h.due, (lt-ltb (count_of c s) 9999999 h.few, tt)))

-- ---- the sections with a line

abbrev pub put : SectionLines → Section → List ℕ → SectionLines
put t Start r = record t { start = t.start ++ r ∷ [] }
put t Global r = record t { global = t.global ++ r ∷ [] }
put t Directory r = record t { directory = t.directory ++ r ∷ [] }
put t Param r = record t { param = t.param ++ r ∷ [] }
put t Terminate r = t

pub counts_put : (t : SectionLines) (s : Section) (r : List ℕ) → counts_of (put t s r) ≡ counted (counts_of t) s
counts_put t Start r = ap (λ (n : ℕ). record (counts_of t) { start = n }) (length-append t.start (r ∷ []))
counts_put t Global r = ap (λ (n : ℕ). record (counts_of t) { global = n }) (length-append t.global (r ∷ []))
counts_put t Directory r = ap (λ (n : ℕ). record (counts_of t) { directory = n }) (length-append t.directory (r ∷ []))
counts_put t Param r = ap (λ (n : ℕ). record (counts_of t) { param = n }) (length-append t.param (r ∷ []))
counts_put t Terminate r = refl

nil : (ls : Lines) → (length ls == 0) ≡ true → ls ≡ []
nil [] e = refl
nil (l ∷ ls) e = let k : length (l ∷ ls) ≡ 0 = eqb-true (length (l ∷ ls)) 0 e in absurd (omega arith)

four : (a b c d a' b' c' d' : Lines) → a ≡ a' → b ≡ b' → c ≡ c' → d ≡ d' → (a ++ b ++ c ++ d) ≡ (a' ++ b' ++ c' ++ d')
four a b c d a' b' c' d' p q r t = ap (λ (x : Lines). x ++ b ++ c ++ d) p ∙ ap (λ (x : Lines). a' ++ x ++ c ++ d) q ∙ ap (λ (x : Lines). a' ++ b' ++ x ++ d) r
    ∙ ap (λ (x : Lines). a' ++ b' ++ c' ++ x) t

one : (a b c d : Lines) → b ≡ [] → c ≡ [] → d ≡ [] → (a ++ b ++ c ++ d) ≡ a
one a b c d e f g = four a b c d a [] [] [] refl e f g ∙ append-nil ((a ++ []) ++ []) ∙ append-nil (a ++ []) ∙ append-nil a

two : (a b c d : Lines) → c ≡ [] → d ≡ [] → (a ++ b ++ c ++ d) ≡ a ++ b
two a b c d f g = four a b c d a b [] [] refl refl f g ∙ append-nil ((a ++ b) ++ []) ∙ append-nil (a ++ b)

three : (a b c d : Lines) → d ≡ [] → (a ++ b ++ c ++ d) ≡ a ++ b ++ c
three a b c d g = four a b c d a b c [] refl refl refl g ∙ append-nil (a ++ b ++ c)

pub join_put : (t : SectionLines) (s : Section) (r : List ℕ) → is_last s ≡ false → is_in_order (counts_of t) s ≡ true → joined (put t s r) ≡ joined t ++ r ∷ []
join_put t Start r e o =
    let p = and_parts (length t.global == 0 && length t.directory == 0) (length t.param == 0) o in
    let q = and_parts (length t.global == 0) (length t.directory == 0) p.0 in
    let b = nil t.global q.0 in
    let c = nil t.directory q.1 in
    let d = nil t.param p.1 in
    one (t.start ++ r ∷ []) t.global t.directory t.param b c d ∙ ap (λ (x : Lines). x ++ r ∷ []) (sym (one t.start t.global t.directory t.param b c d))
join_put t Global r e o =
    let p = and_parts (length t.directory == 0) (length t.param == 0) o in
    let c = nil t.directory p.0 in
    let d = nil t.param p.1 in
    two t.start (t.global ++ r ∷ []) t.directory t.param c d ∙ sym (append_assoc t.start t.global (r ∷ []))
    ∙ ap (λ (x : Lines). x ++ r ∷ []) (sym (two t.start t.global t.directory t.param c d))
join_put t Directory r e o =
    let d = nil t.param o in
    three t.start t.global (t.directory ++ r ∷ []) t.param d ∙ sym (append_assoc (t.start ++ t.global) t.directory (r ∷ []))
    ∙ ap (λ (x : Lines). x ++ r ∷ []) (sym (three t.start t.global t.directory t.param d))
join_put t Param r e o = sym (append_assoc (t.start ++ t.global ++ t.directory) t.param (r ∷ []))
join_put t Terminate r e o = absurd cc

-- ---- what holds of the sections so far

abbrev pub Numbered : ℕ → ℕ → Lines → Type 0
Numbered x k ls = AllByRecursion (λ (l : ℕ × List ℕ). IsNumbered x l.0 l.1) (enumerate_from k ls)

push : (x k n : ℕ) (ls : Lines) (l : List ℕ) → Numbered x k ls → n ≡ k + length ls → IsNumbered x n l → Numbered x k (ls ++ l ∷ [])
push x k n [] l h is new = (subst (λ (m : ℕ). IsNumbered x m l) (is ∙ omega arith) new, tt)
push x k n (a ∷ ls) l h is new = (h.0, push x (k + 1) n ls l h.1 (omega (arith, is)) new)

-- four numbered sections, of which a later one begins only after an earlier one
pub record Begun (t : SectionLines) : Type 0 where
  pub start : AreNumbered 83 t.start
  pub global : AreNumbered 71 t.global
  pub directory : AreNumbered 68 t.directory
  pub param : AreNumbered 80 t.param
  pub before_global : 0 < length t.global → 0 < length t.start
  pub before_param : 0 < length t.param → 0 < length t.global
  pub few : AreFew (counts_of t)

some_of : (n : ℕ) → not (n == 0) ≡ true → 0 < n
some_of n e = let f = eqb-false n 0 (not-true (n == 0) e) in omega arith

pub begun_put : (t : SectionLines) (s : Section) (r : List ℕ) → Begun t → Fits (counts_of t) s → IsNumbered (letter_of s) (next_number (counts_of t) s) r
    → Begun (put t s r)
begun_put t Start r h fits new =
    let f = h.few in
    let a = fits.few in record {
      start = push 83 1 (length t.start + 1) t.start r h.start (omega arith) new;
      global = h.global;
      directory = h.directory;
      param = h.param;
      before_global = λ some. omega (arith, length-append t.start (r ∷ []));
      before_param = h.before_param;
      few = record { start = omega (arith, a, length-append t.start (r ∷ [])); global = f.global; directory = f.directory; param = f.param };
    }
begun_put t Global r h fits new =
    let f = h.few in
    let a = fits.few in
    let due = some_of (length t.start) fits.due in record {
      start = h.start;
      global = push 71 1 (length t.global + 1) t.global r h.global (omega arith) new;
      directory = h.directory;
      param = h.param;
      before_global = λ some. due;
      before_param = λ some. omega (arith, length-append t.global (r ∷ []));
      few = record { start = f.start; global = omega (arith, a, length-append t.global (r ∷ [])); directory = f.directory; param = f.param };
    }
begun_put t Directory r h fits new =
    let f = h.few in
    let a = fits.few in record {
      start = h.start;
      global = h.global;
      directory = push 68 1 (length t.directory + 1) t.directory r h.directory (omega arith) new;
      param = h.param;
      before_global = h.before_global;
      before_param = h.before_param;
      few = record { start = f.start; global = f.global; directory = omega (arith, a, length-append t.directory (r ∷ [])); param = f.param };
    }
begun_put t Param r h fits new =
    let f = h.few in
    let a = fits.few in
    let due = some_of (length t.global) fits.due in record {
      start = h.start;
      global = h.global;
      directory = h.directory;
      param = push 80 1 (length t.param + 1) t.param r h.param (omega arith) new;
      before_global = h.before_global;
      before_param = λ some. due;
      few = record { start = f.start; global = f.global; directory = f.directory; param = omega (arith, a, length-append t.param (r ∷ [])) };
    }
begun_put t Terminate r h fits new = h

-- the last line is due
pub last_due : (t : SectionLines) → 0 < length t.global → Fits (counts_of t) Terminate
last_due t some = record {
  in_order = refl;
  due = not_from_false (length t.global == 0)
      (ne_eqb (length t.global) 0 (λ e. let k : length t.global ≡ 0 = e in absurd (omega arith)));
  few = omega arith;
}

pub global_of : (t : SectionLines) → Fits (counts_of t) Terminate → 0 < length t.global
global_of t h = some_of (length t.global) h.due

-- ---- the file and its lines

module _ (bytes out : List ℕ) where
  pub laid_if : relaid bytes ≡ Ok out → laid_lines bytes ≡ Ok out
  unfolding relaid
  laid_if e = made_of (shuffled_line (strays_in bytes)) (laid_lines bytes) e
    where
      made_of : (o : Option ℕ) (r : Laid) → unless_shuffled o r ≡ Ok out → r ≡ Ok out
      made_of None (Ok text) h = h
      made_of None (Err fault) h = absurd cc
      made_of (Some n) (Ok text) h = absurd cc
      made_of (Some n) (Err fault) h = absurd cc

  pub relaid_if : strays_in bytes ≡ [] → laid_lines bytes ≡ Ok out → relaid bytes ≡ Ok out
  unfolding relaid
  relaid_if none is = ap (λ (rs : List Stray). unless_shuffled (shuffled_line rs) (laid_lines bytes)) none ∙ ap (unless_shuffled None) is

-- ---- a text before what follows it

pub before_ok : (x : List ℕ) (r : Laid) (t : List ℕ) → before x r ≡ Ok t → (more : List ℕ) × (r ≡ Ok more) × (t ≡ x ++ more)
before_ok x (Ok more) t e = (more, refl, cc)
before_ok x (Err f) t e = absurd cc
