-- The lines that are written, and lines like them.
use Rattle.std.proofs.Common.{◌≡◌, inl, inr, ℕ, ◌+◌, ◌<◌, ◌≤◌, true, false, List, [], ◌∷◌, ◌++◌, length, get_or, take, drop, pos, Option, Some, None, refl, sym}
use Rattle.std.proofs.Common.{ap, subst, ◌∙◌, append_assoc, arith, lit<}
use Rattle.std.specs.Prelude.{◌&&◌, ◌==◌, nat_lt, nat_le, is_some, slice_index}
use Rattle.std.specs.Fmt.{decimal}
use Rattle.std.specs.List.{list_all}
use Rattle.std.proofs.lemmas.Bool.{and_parts, and_from, and_left, and_right, cases_Bool, cond-true, cond-false, both_ways, eq-eqb, le-leb, leb-true}
use Rattle.std.proofs.lemmas.List.{take_at, get_or_append_left}
use Rattle.iges_base.specs.Word.{column_number}
use Rattle.iges_base.proofs.Tests.{passed}
use Rattle.iges_base.proofs.Lists.{list_all-implies}
use Rattle.iges_lines.specs.Lines.{SectionLines}
use Rattle.iges_lines.specs.Sectioned.{IsCount, IsTerminate}
use Rattle.iges_lines.proofs.Walk.{is-has_number}
use Rattle.iges_write.proofs.Columns.{length-right, right_7}
use Rattle.iges_write.proofs.Fields.{length-counts_columns, terminates}
use Rattle.line_layout.specs.declared.counting.LineCounts.{LineCounts}
use Rattle.line_layout.specs.declared.letters.Section.{Section}
use Rattle.line_layout.specs.declared.letters.Section.TheVariants.{Start, Global, Directory, Param, Terminate}
use Rattle.line_layout.specs.Columns.{columns, has_number, has_count, number_in}
use Rattle.line_layout.specs.Counts.{next_number, AreFew}
use Rattle.line_layout.specs.Judging.{letter, line_tests, line_fault, section_fault}
use Rattle.line_layout.specs.Letters.{letter_of, section_of, is_last}
use Rattle.line_layout.specs.Marks.{is_blank_byte, is_tail_byte, is_blank, has_letter_at, begins_with_two, unmarked}
use Rattle.line_layout.specs.Rows.{right, counts_columns, has_counts, content, number_field, row}
use Rattle.line_layout.proofs.GoodLines.{IsGood}
use Rattle.layout_laws.specs.Counted.{counts_of}
use Rattle.layout_laws.proofs.FieldBytes.{is_field_byte, number_bytes, field_in_tail, has_number-is, number_in-is}
use Rattle.layout_laws.proofs.Parts.{line_of, content_is, field_is, beyond_is, length_is, letter_is, at_field, length_field, length_content, same_columns}
use Rattle.layout_laws.proofs.Shifted.{tail_no_letter, all_at, plain_line}

-- A line of 80 bytes with its letter and its number, and the counts where it is the last.
pub record IsRow (c : LineCounts) (s : Section) (r : List ℕ) : Type 0 where
  pub front : List ℕ
  pub field : List ℕ
  pub parts : r ≡ front ++ letter_of s ∷ field
  pub long : length front ≡ 72
  pub seven : length field ≡ 7
  pub number : column_number field ≡ Some (pos (next_number c s))
  pub counts : s ≡ Terminate → has_counts c r ≡ true

-- ---- of letters

pub letter_names : (s : Section) → section_of (letter_of s) ≡ Some s
unfolding section_of
letter_names Start = refl
letter_names Global = refl
letter_names Directory = refl
letter_names Param = refl
letter_names Terminate = refl

letter_not_blank : (s : Section) → is_blank_byte (letter_of s) ≡ false
letter_not_blank Start = refl
letter_not_blank Global = refl
letter_not_blank Directory = refl
letter_not_blank Param = refl
letter_not_blank Terminate = refl

-- ---- of counts

pub counts_same : (c : LineCounts) (xs ys : List ℕ) → take 72 xs ≡ take 72 ys → has_counts c xs ≡ has_counts c ys
counts_same c xs ys e =
    ap (λ (f : List ℕ). has_count 83 c.start f && has_count 71 c.global (columns 9 16 xs) && has_count 68 c.directory
    (columns 17 24 xs) && has_count 80 c.param (columns 25 32 xs)) (same_columns 0 8 xs ys (omega arith) e)
    ∙ ap (λ (f : List ℕ). has_count 83 c.start (columns 1 8 ys) && has_count 71 c.global f && has_count 68 c.directory
    (columns 17 24 xs) && has_count 80 c.param (columns 25 32 xs)) (same_columns 8 8 xs ys (omega arith) e)
    ∙ ap (λ (f : List ℕ). has_count 83 c.start (columns 1 8 ys) && has_count 71 c.global (columns 9 16 ys) && has_count 68 c.directory f && has_count 80
    c.param (columns 25 32 xs)) (same_columns 16 8 xs ys (omega arith) e)
    ∙ ap (λ (f : List ℕ). has_count 83 c.start (columns 1 8 ys) && has_count 71 c.global (columns 9 16 ys) && has_count 68 c.directory
    (columns 17 24 ys) && has_count 80 c.param f) (same_columns 24 8 xs ys (omega arith) e)

count_holds : (x n : ℕ) (f : List ℕ) → IsCount x n f → has_count x n f ≡ true
count_holds x n f h = and_from (slice_index f 0 == x) (has_number (drop 1 f) n) (eq-eqb _ _ h.0) (is-has_number (drop 1 f) n h.1)

pub terminate_holds : (t : SectionLines) (l : List ℕ) → IsTerminate t l → has_counts (counts_of t) l ≡ true
terminate_holds t l h =
    and_from _ _ (and_from _ _ (and_from _ _ (count_holds 83 (length t.start) (columns 1 8 l) h.start)
    (count_holds 71 (length t.global) (columns 9 16 l) h.global))
    (count_holds 68 (length t.directory) (columns 17 24 l) h.directory)) (count_holds 80 (length t.param) (columns 25 32 l) h.param)

length_counts : (c : LineCounts) → length (counts_columns c) ≡ 72
unfolding counts_columns
length_counts c = length-counts_columns c.start c.global c.directory c.param

made_counts : (t : SectionLines) (rest : List ℕ) → AreFew (counts_of t) → has_counts (counts_of t) (counts_columns (counts_of t) ++ rest) ≡ true
unfolding counts_columns
made_counts t rest few =
    let c = counts_of t in
    let tail = 84 ∷ right 7 (decimal 1) in
    let s = few.start in
    let g = few.global in
    let d = few.directory in
    let p = few.param in
    let long = length_counts c in
    let line = terminates t c.start c.global c.directory c.param refl refl refl refl (omega (arith, s)) (omega (arith, g)) (omega (arith, d))
    (omega (arith, p)) in
    counts_same c (counts_columns c ++ rest) (counts_columns c ++ tail) (take_at (counts_columns c) rest 72 long
    ∙ sym (take_at (counts_columns c) tail 72 long)) ∙ terminate_holds t (counts_columns c ++ tail) line

-- ---- the row of a line

pub number_is : (n : ℕ) (line : List ℕ) → n < 10000000 → (length (number_field n line) ≡ 7) × (column_number (number_field n line) ≡ Some (pos n))
unfolding number_field
number_is n line small = elim (cases_Bool (nat_le 80 (length line) && has_number (columns 74 80 line) n)) [
  | inl t ↦
      let p = and_parts (nat_le 80 (length line)) (has_number (columns 74 80 line) n) t in
      let is : number_field n line ≡ columns 74 80 line = cond-true _ (columns 74 80 line) (right 7 (decimal n)) t in
      (ap length is ∙ length_field line (leb-true 80 (length line) p.0), ap column_number is ∙ has_number-is (columns 74 80 line) n p.1)
  | inr f ↦
      let is : number_field n line ≡ right 7 (decimal n) = cond-false _ (columns 74 80 line) (right 7 (decimal n)) f in
      (ap length is ∙ length-right 7 (decimal n), ap column_number is ∙ right_7 n small)
]

-- columns 1 to 72 of a row
pub content_same : (c : LineCounts) (s : Section) (line : List ℕ) → (s ≡ Terminate → has_counts c line ≡ true) → content c s line ≡ columns 1 72 line
unfolding content
content_same c Start line h = refl
content_same c Global line h = refl
content_same c Directory line h = refl
content_same c Param line h = refl
content_same c Terminate line h = cond-true (has_counts c line) _ _ (h refl)

content_made : (c : LineCounts) (line : List ℕ) → has_counts c line ≡ false → content c Terminate line ≡ counts_columns c
unfolding content
content_made c line h = cond-false (has_counts c line) _ _ h

module _ (t : SectionLines) (few : AreFew (counts_of t)) where
  last_content : (line : List ℕ) → (has_counts (counts_of t) line ≡ true → 72 ≤ length line) → (length (content (counts_of t) Terminate line) ≡ 72)
      × ((rest : List ℕ) → has_counts (counts_of t) (content (counts_of t) Terminate line ++ rest) ≡ true)
  last_content line long =
      let c = counts_of t in
      elim (cases_Bool (has_counts c line)) [
        | inl h ↦
            let is = content_same c Terminate line (λ e. h) in
            let wide = length_content line (long h) in (
              ap length is ∙ wide,
              λ rest. ap (λ (f : List ℕ). has_counts c (f ++ rest)) is
                  ∙ counts_same c (columns 1 72 line ++ rest) line (take_at (columns 1 72 line) rest 72 wide) ∙ h,
            )
        | inr f ↦ let is = content_made c line f in (
          ap length is ∙ length_counts c,
          λ rest. ap (λ (x : List ℕ). has_counts c (x ++ rest)) is
              ∙ made_counts t rest few,
        )
      ]

  last_row : (line : List ℕ) → (has_counts (counts_of t) line ≡ true → 72 ≤ length line) → IsRow (counts_of t) Terminate (row (counts_of t) Terminate line)
  unfolding row
  last_row line long =
      let n = number_is 1 line (lit< tt) in
      let w = last_content line long in
      record {
        front = content (counts_of t) Terminate line;
        field = number_field 1 line;
        parts = refl;
        long = w.0;
        seven = n.0;
        number = n.1;
        counts = λ e. w.1 (84 ∷ number_field 1 line);
      }

  -- the terminate line that is made
  pub made_row : IsRow (counts_of t) Terminate (row (counts_of t) Terminate [])
  made_row = last_row [] (λ e. absurd cc)

  other_row : (s : Section) (line : List ℕ) → (s ≡ Terminate → ⊥) → 72 ≤ length line → next_number (counts_of t) s < 10000000
      → IsRow (counts_of t) s (row (counts_of t) s line)
  unfolding row
  other_row s line other long small =
      let c = counts_of t in
      let n = number_is (next_number c s) line small in
      record {
        front = content c s line;
        field = number_field (next_number c s) line;
        parts = refl;
        long = ap length (content_same c s line (λ e. absurd (other e))) ∙ length_content line long;
        seven = n.0;
        number = n.1;
        counts = λ e. absurd (other e);
      }

  -- the row of a good line
  pub good_row : (s : Section) (line : List ℕ) → IsGood (counts_of t) line s → next_number (counts_of t) s < 10000000
      → IsRow (counts_of t) s (row (counts_of t) s line)
  good_row Terminate line h small = let p = plain_line line h.no_fault in let long = p.long in last_row line (λ e. omega (arith, long))
  good_row Start line h small = let p = plain_line line h.no_fault in let long = p.long in other_row Start line (λ e. cc) (omega (arith, long)) small
  good_row Global line h small = let p = plain_line line h.no_fault in let long = p.long in other_row Global line (λ e. cc) (omega (arith, long)) small
  good_row Directory line h small = let p = plain_line line h.no_fault in let long = p.long in other_row Directory line (λ e. cc) (omega (arith, long)) small
  good_row Param line h small = let p = plain_line line h.no_fault in let long = p.long in other_row Param line (λ e. cc) (omega (arith, long)) small

  -- the columns 1 to 72 of its row are its own
  pub row_content : (s : Section) (line : List ℕ) → IsGood (counts_of t) line s → next_number (counts_of t) s < 10000000 → is_last s ≡ false
      → columns 1 72 (row (counts_of t) s line) ≡ columns 1 72 line
  unfolding row
  row_content s line h small other =
      let c = counts_of t in
      let p = plain_line line h.no_fault in
      let long = p.long in
      let same : content c s line ≡ columns 1 72 line = content_same c s line (λ e. absurd (both_ways (is_last s) other (ap is_last e))) in
      let wide : length (content c s line) ≡ 72 = ap length same ∙ length_content line (omega (arith, long)) in
      take_at (content c s line) (letter_of s ∷ number_field (next_number c s) line) 72 wide ∙ same

-- ---- a row is kept, with blanks after it

module _ (c : LineCounts) (s : Section) (r tail piece : List ℕ) (is : piece ≡ r ++ tail) (blank : is_blank tail ≡ true) (w : IsRow c s r) where
  whole : piece ≡ line_of w.front (letter_of s) w.field tail
  whole = is ∙ ap (λ (x : List ℕ). x ++ tail) w.parts ∙ append_assoc w.front (letter_of s ∷ w.field) tail

  bytes : list_all is_field_byte w.field ≡ true
  bytes = number_bytes w.field _ w.number

  no_letter : (i : ℕ) → i < 7 → section_of (get_or piece (73 + i) 0) ≡ None
  no_letter i lt =
      let seven = w.seven in
      let at : get_or piece (73 + i) 0 ≡ get_or w.field i 0 =
      ap (λ (l : List ℕ). get_or l (73 + i) 0) whole ∙ at_field w.front w.field tail (letter_of s) w.long w.seven i
      ∙ get_or_append_left w.field tail 0 i (omega (arith, lt, seven)) in
      ap section_of at ∙ tail_no_letter (get_or w.field i 0)
      (field_in_tail (get_or w.field i 0) (all_at is_field_byte w.field i (omega (arith, lt, seven)) bytes))

  no_mark : (i : ℕ) → i < 7 → has_letter_at piece (73 + i) ≡ false
  no_mark i lt = and_right (nat_lt (73 + i) (length piece)) _ (ap (λ (o : Option Section). is_some o) (no_letter i lt))

  pub unmarked_is : unmarked piece ≡ piece
  unfolding unmarked
  unmarked_is =
      cond-false _ _ _ (and_left (has_letter_at piece 75 && begins_with_two piece 239 187) (slice_index piece 2 == 191)
      (and_left (has_letter_at piece 75) (begins_with_two piece 239 187) (no_mark 2 (omega arith))))
      ∙ cond-false _ _ _ (and_left (has_letter_at piece 73) (slice_index piece 0 == 12) (no_mark 0 (omega arith)))

  long : length piece ≡ 80 + length tail
  long = ap length whole ∙ length_is w.front w.field tail (letter_of s) w.long w.seven

  letter_at : letter piece ≡ letter_of s
  letter_at = ap letter whole ∙ letter_is w.front w.field tail (letter_of s) w.long w.seven

  field_at : columns 74 80 piece ≡ w.field
  field_at = ap (columns 74 80) whole ∙ field_is w.front w.field tail (letter_of s) w.long w.seven

  -- its number is its place
  pub placed : number_in (columns 74 80 (unmarked piece)) ≡ next_number c s
  placed = ap (λ (l : List ℕ). number_in (columns 74 80 l)) unmarked_is ∙ ap number_in field_at ∙ number_in-is w.field (next_number c s) w.number

  content_at : columns 1 72 piece ≡ w.front
  content_at = ap (columns 1 72) whole ∙ content_is w.front w.field tail (letter_of s) w.long w.seven

  not_blank : is_blank piece ≡ false
  not_blank = elim (cases_Bool (is_blank piece)) [
    | inl t ↦ absurd (both_ways (is_blank_byte (letter piece)) (ap is_blank_byte letter_at
        ∙ letter_not_blank s) (all_at is_blank_byte piece 72 (omega (arith, long)) t))
    | inr f ↦ f
  ]

  no_fault : line_fault piece ≡ None
  unfolding line_fault
  no_fault =
      passed (line_tests piece) (
        le-leb 73 (length piece) (omega (arith, long)),
        (
          ap (λ (b : ℕ). is_some (section_of b)) letter_at ∙ ap (λ (o : Option Section). is_some o) (letter_names s),
          (
            ap (list_all is_tail_byte) field_at ∙ list_all-implies is_field_byte is_tail_byte field_in_tail w.field bytes,
            (ap is_blank (ap (drop 80) whole ∙ beyond_is w.front w.field tail (letter_of s) w.long w.seven) ∙ blank, tt),
          ),
        ),
      )

  pub kept_good : section_fault c s ≡ None → IsGood c (unmarked piece) s
  kept_good fits =
      subst (λ (l : List ℕ). IsGood c l s) (sym unmarked_is) (record {
        some = not_blank;
        no_fault = no_fault;
        section = ap section_of letter_at
            ∙ letter_names s;
        fits = fits;
      })

  r_content : take 72 r ≡ w.front
  r_content = ap (take 72) w.parts ∙ take_at w.front (letter_of s ∷ w.field) 72 w.long

  same_content : content c s piece ≡ w.front
  same_content = content_same c s piece (λ e. counts_same c piece r (content_at ∙ sym r_content) ∙ w.counts e) ∙ content_at

  same_number : number_field (next_number c s) piece ≡ w.field
  unfolding number_field
  same_number =
      cond-true _ _ _ (and_from (nat_le 80 (length piece)) (has_number (columns 74 80 piece) (next_number c s)) (le-leb 80 (length piece) (omega (arith, long)))
      (ap (λ (f : List ℕ). has_number f (next_number c s)) field_at ∙ is-has_number w.field (next_number c s) w.number)) ∙ field_at

  pub same_row : row c s (unmarked piece) ≡ r
  unfolding row
  same_row =
      ap (λ (l : List ℕ). content c s l ++ letter_of s ∷ number_field (next_number c s) l) unmarked_is
      ∙ ap (λ (f : List ℕ). f ++ letter_of s ∷ number_field (next_number c s) piece) same_content
      ∙ ap (λ (f : List ℕ). w.front ++ letter_of s ∷ f) same_number
      ∙ sym w.parts
