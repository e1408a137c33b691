-- Nothing is changed in the lines of a file that was made.
use Rattle.std.proofs.Common.{◌≡◌, ℕ, ◌+◌, ◌-◌, ◌≤◌, Bool, true, false, not, List, [], ◌∷◌, ◌++◌, length, drop, replicate, pos, Option, Some, None, ℤ, Equal, refl, sym}
use Rattle.std.proofs.Common.{ap, ◌∙◌, append_assoc, arith, length-append}
use Rattle.std.specs.Prelude.{◌&&◌, ◌==◌, nat_lt, nat_le, slice_index, if◌then◌else◌}
use Rattle.std.specs.List.{list_any}
use Rattle.std.proofs.lemmas.Bool.{and_from, and_parts, and_right, cond-true, cond-false, eq-eqb, false_from_ne_true, le-leb, lt-ltb, ltb-true}
use Rattle.std.proofs.lemmas.List.{append-nil, drop_all}
use Rattle.iges_base.specs.Ended.{ended}
use Rattle.iges_base.specs.InLine.{is_in_line}
use Rattle.iges_base.specs.Word.{column_number}
use Rattle.iges_lines.proofs.Walk.{is-has_number}
use Rattle.iges_write.proofs.Columns.{IsLine, get-behind}
use Rattle.line_layout.specs.declared.change.Change.{Change}
use Rattle.line_layout.specs.declared.change.Change.TheVariants as change
use Rattle.line_layout.specs.declared.counting.LineCounts.{LineCounts}
use Rattle.line_layout.specs.declared.judging.Judged.{Judged}
use Rattle.line_layout.specs.declared.judging.Judged.TheVariants.{Good}
use Rattle.line_layout.specs.declared.letters.Section.{Section}
use Rattle.line_layout.specs.declared.letters.Section.TheVariants.{Start, Global, Directory, Param, Terminate}
use Rattle.line_layout.specs.Changes.{Cut, changed_from, cuts, dropped, going_on, happens, is_changed, is_of_rest, once}
use Rattle.line_layout.specs.Columns.{columns, has_count, has_greater, has_number, is_letter, number_in}
use Rattle.line_layout.specs.Counts.{counted, next_number}
use Rattle.line_layout.specs.Judging.{judge, letter, lines_after, section_fault}
use Rattle.line_layout.specs.Letters.{is_last, letter_of}
use Rattle.line_layout.specs.Marks.{unmarked}
use Rattle.line_layout.specs.Rows.{has_counts}
use Rattle.line_layout.proofs.Cutting.{cut_first_cut, made_cut, no_cuts}
use Rattle.line_layout.proofs.GoodLines.{judged_good}
use Rattle.layout_laws.proofs.FieldBytes.{has_number-is, number_in-is}
use Rattle.layout_laws.proofs.Rows.{IsRow, kept_good, unmarked_is}
use Rattle.layout_laws.proofs.Steps.{row_line, row_numbered}

not_less : (n : ℕ) (field : List ℕ) → column_number field ≡ Some (pos n) → nat_lt n (number_in field) ≡ false
not_less n field is =
    ap (nat_lt n) (number_in-is field n is) ∙ false_from_ne_true (nat_lt n n) (λ t. let less = ltb-true n n t in absurd (omega (arith, less)))

not_greater : (x n : ℕ) (field : List ℕ) → has_count x n field ≡ true → has_greater x n field ≡ false
not_greater x n field e =
    let p = and_parts (slice_index field 0 == x) (has_number (drop 1 field) n) e in
    and_right (is_letter x (slice_index field 0)) (nat_lt n (number_in (drop 1 field)))
    (not_less n (drop 1 field) (has_number-is (drop 1 field) n p.1))

module _ (c : LineCounts) (s : Section) (r : List ℕ) (w : IsRow c s r) (inside : is_in_line r ≡ true) where
  abbrev n : ℕ
  n = next_number c s

  same : unmarked r ≡ r
  same = unmarked_is c s r [] r (sym (append-nil r)) refl w

  long : length r ≡ 80
  long = (row_numbered c s r w).long

  no_CR : (slice_index r (length r - 1) == 13) ≡ false
  no_CR =
      let l = row_line c s r w inside in
      let at : slice_index r (length r - 1) ≡ l.last = ap (λ (x : List ℕ). slice_index x (length r - 1)) l.parts
      ∙ get-behind l.front l.last [] (length r - 1) (omega (arith, ap length l.parts, length-append l.front (l.last ∷ []))) in
      ap (λ (b : ℕ). b == 13) at ∙ l.no_CR

  kept_letter : nat_lt 72 (length r) && letter r == letter_of s ≡ true
  kept_letter = and_from (nat_lt 72 (length r)) (letter r == letter_of s) (lt-ltb 72 (length r) (omega (arith, long)))
      (eq-eqb (letter r) (letter_of s) (row_numbered c s r w).letter_is)

  kept_number : nat_le 80 (length r) && has_number (columns 74 80 r) n ≡ true
  kept_number = and_from (nat_le 80 (length r)) (has_number (columns 74 80 r) n) (le-leb 80 (length r) (omega (arith, long)))
      (is-has_number (columns 74 80 r) n (row_numbered c s r w).number_is)

  not_ahead : nat_lt n (number_in (columns 74 80 r)) ≡ false
  not_ahead = not_less n (columns 74 80 r) (row_numbered c s r w).number_is

  abbrev has : ℕ → ℕ → ℕ → ℕ → Bool
  has x m from to = has_count x m (columns from to r)

  counts_are : s ≡ Terminate
      → (has 83 c.start 1 8 ≡ true) × (has 71 c.global 9 16 ≡ true) × (has 68 c.directory 17 24 ≡ true) × (has 80 c.param 25 32 ≡ true)
  counts_are e =
      let last = and_parts (has 83 c.start 1 8 && has 71 c.global 9 16 && has 68 c.directory 17 24) (has 80 c.param 25 32) (w.counts e) in
      let third = and_parts (has 83 c.start 1 8 && has 71 c.global 9 16) (has 68 c.directory 17 24) last.0 in
      let two = and_parts (has 83 c.start 1 8) (has 71 c.global 9 16) third.0 in
      (two.0, two.1, third.1, last.1)

  -- what is false of the last line
  of_last : (t : Section) (b : Bool) → s ≡ t → (s ≡ Terminate → b ≡ false) → is_last t && b ≡ false
  of_last Start b e h = refl
  of_last Global b e h = refl
  of_last Directory b e h = refl
  of_last Param b e h = refl
  of_last Terminate b e h = h e

  unchanged : (k : Change) → is_changed k c s r true ≡ false
  unfolding is_changed
  unchanged change.Mark = false_from_ne_true (nat_lt (length (unmarked r)) (length r))
      (λ t. omega (arith, ltb-true (length (unmarked r)) (length r) t, ap length same))
  unchanged change.Blank = refl
  unchanged change.End = and_right (nat_lt 0 (length r)) (slice_index r (length r - 1) == 13) no_CR
  unchanged change.Letter = ap (λ (l : List ℕ). not (nat_lt 72 (length l) && slice_index l 72 == letter_of s)) same ∙ ap not kept_letter
  unchanged change.Past =
      ap (λ (l : List ℕ). list_any (λ b. not (b == 13)) l) (ap (drop 80) same ∙ drop_all 80 r (omega (arith, long)))
  unchanged change.Number = ap (λ (l : List ℕ). not (nat_le 80 (length l) && has_number (columns 74 80 l) n)) same ∙ ap not kept_number
  unchanged change.Ahead = ap (λ (l : List ℕ). nat_lt n (number_in (columns 74 80 l))) same ∙ not_ahead
  unchanged change.Counts = ap (λ (l : List ℕ). is_last s && not (has_counts c l)) same ∙ of_last s (not (has_counts c r)) refl (λ e. ap not (w.counts e))
  unchanged change.FewerStart = ap (λ (l : List ℕ). is_last s && has_greater 83 c.start (columns 1 8 l)) same
      ∙ of_last s (has_greater 83 c.start (columns 1 8 r)) refl (λ e. not_greater 83 c.start (columns 1 8 r) (counts_are e).0)
  unchanged change.FewerGlobal = ap (λ (l : List ℕ). is_last s && has_greater 71 c.global (columns 9 16 l)) same
      ∙ of_last s (has_greater 71 c.global (columns 9 16 r)) refl (λ e. not_greater 71 c.global (columns 9 16 r) (counts_are e).1)
  unchanged change.FewerDirectory = ap (λ (l : List ℕ). is_last s && has_greater 68 c.directory (columns 17 24 l)) same
      ∙ of_last s (has_greater 68 c.directory (columns 17 24 r)) refl (λ e. not_greater 68 c.directory (columns 17 24 r) (counts_are e).2)
  unchanged change.FewerParam = ap (λ (l : List ℕ). is_last s && has_greater 80 c.param (columns 25 32 l)) same
      ∙ of_last s (has_greater 80 c.param (columns 25 32 r)) refl (λ e. not_greater 80 c.param (columns 25 32 r) (counts_are e).3)
  unchanged change.After = refl

  module _ (fits : section_fault c s ≡ None) (k : Change) (m : ℕ) (text : List ℕ) where
    judged : judge c r ≡ Good s
    judged = judged_good c r s (kept_good c s r [] r (sym (append-nil r)) refl w fits)

    abbrev after_row : Judged → List ℕ
    after_row j = replicate (once (happens k c j r true)) m ++ going_on (lines_after c j) (m + 1) (dropped k j text) (changed_from k (cuts 10 text) (m + 1))

    begun : changed_from k (cuts 10 (ended r ++ text)) m c ≡ going_on (lines_after c (Good s)) (m + 1) (dropped k (Good s) text)
        (changed_from k (cuts 10 text) (m + 1))
    unfolding changed_from
    begun =
        ap (λ (b : List ℕ). changed_from k (cuts 10 b) m c) (append_assoc r (10 ∷ []) text)
        ∙ ap (λ (cs : List Cut). changed_from k cs m c) (cut_first_cut 10 r text inside)
        ∙ ap after_row judged
        ∙ ap (λ (b : Bool). replicate (once b) m
        ++ going_on (lines_after c (Good s)) (m + 1) (dropped k (Good s) text) (changed_from k (cuts 10 text) (m + 1))) (unchanged k)

    pub unchanged_more : is_last s ≡ false → changed_from k (cuts 10 text) (m + 1) (counted c s) ≡ [] → changed_from k (cuts 10 (ended r ++ text)) m c ≡ []
    unchanged_more other rest =
        begun
        ∙ ap (λ (o : Option LineCounts). going_on o (m + 1) (dropped k (Good s) text) (changed_from k (cuts 10 text) (m + 1)))
        (cond-false (is_last s) None (Some (counted c s)) other)
        ∙ rest

    pub unchanged_last : is_last s ≡ true → text ≡ [] → changed_from k (cuts 10 (ended r ++ text)) m c ≡ []
    unchanged_last last none =
        begun
        ∙ ap (λ (o : Option LineCounts). going_on o (m + 1) (dropped k (Good s) text) (changed_from k (cuts 10 text) (m + 1)))
        (cond-true (is_last s) None (Some (counted c s)) last)
        ∙ ap (λ (b : ℕ). replicate b (m + 1)) (ap (dropped k (Good s)) none ∙ no_bytes (is_of_rest k) (length {A = ℕ} []) refl)
      where
        no_bytes : (b : Bool) (z : ℕ) → z ≡ 0 → (if b then z else 0) ≡ 0
        no_bytes true z e = e
        no_bytes false z e = refl
