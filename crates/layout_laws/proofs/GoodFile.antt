-- A file that is read is made again with the same lines.
use Rattle.std.proofs.Common.{◌≡◌, inl, inr, ℕ, ◌+◌, ◌-◌, ◌<◌, ◌≤◌, true, false, not, List, [], ◌∷◌, ◌++◌, length, take, drop, map, None, Ok, refl, sym, ap, subst}
use Rattle.std.proofs.Common.{◌∙◌, append_assoc, arith, length-append, zero-add}
use Rattle.std.specs.Prelude.{◌==◌, flat_map, slice_index}
use Rattle.std.specs.List.{list_any}
use Rattle.std.specs.Str.Lines.{strip_carriage_return}
use Rattle.std.proofs.lemmas.Bool.{and_from, cases_Bool, cond-true, cond-false, eqb-true, ne_eqb, not_from_false, or_parts}
use Rattle.std.proofs.lemmas.List.{append-nil, take-append-drop, drop_more, drop_all}
use Rattle.iges_base.specs.declared.TheConstants.{FILE_LIMIT}
use Rattle.iges_base.specs.Ended.{ended}
use Rattle.iges_base.specs.InLine.{is_in_line}
use Rattle.iges_lines.specs.Lines.{SectionLines, joined, lines}
use Rattle.iges_lines.specs.Lines as read
use Rattle.iges_lines.specs.Sectioned.{IsNumbered, IsSectioned, AreSections}
use Rattle.iges_lines.proofs.Cutting.{last_piece}
use Rattle.iges_lines.proofs.Kept.{sections_kept}
use Rattle.line_layout.specs.declared.counting.LineCounts.{LineCounts}
use Rattle.line_layout.specs.declared.letters.Section.{Section}
use Rattle.line_layout.specs.declared.letters.Section.TheVariants.{Start, Global, Directory, Param, Terminate}
use Rattle.line_layout.specs.Columns.{columns}
use Rattle.line_layout.specs.Counts.{no_lines, count_of, next_number, counted, is_in_order, is_due}
use Rattle.line_layout.specs.Judging.{section_fault}
use Rattle.line_layout.specs.Letters.{letter_of, is_last}
use Rattle.line_layout.specs.Marks.{is_blank}
use Rattle.line_layout.specs.Relaid.{before, end_byte, pieces, laid, relaid}
use Rattle.line_layout.specs.Rows.{has_counts}
use Rattle.line_layout.specs.Strays.{strays_from}
use Rattle.line_layout.proofs.Looping.{before_both, before_none}
use Rattle.layout_laws.specs.Counted.{counts_of}
use Rattle.layout_laws.proofs.Parts.{whole_line, length_field, length_content}
use Rattle.layout_laws.proofs.Rows.{IsRow, terminate_holds}
use Rattle.layout_laws.proofs.Steps.{Lines, Numbered, kept_more, kept_last, kept_placed, last_placed, Fits, fits_from, last_due, relaid_if}

-- ---- a numbered line is a row

pub numbered_row : (c : LineCounts) (s : Section) (r : List ℕ) → IsNumbered (letter_of s) (next_number c s) r → (s ≡ Terminate → has_counts c r ≡ true)
    → IsRow c s r
numbered_row c s r h counts =
    let long = h.long in
    record {
      front = columns 1 72 r;
      field = columns 74 80 r;
      parts = whole_line r h.long ∙ ap (λ (b : ℕ). columns 1 72 r ++ b ∷ columns 74 80 r) h.letter_is;
      long = length_content r (omega (arith, long));
      seven = length_field r (omega (arith, long));
      number = h.number_is;
      counts = counts;
    }

-- ---- a piece is its line, and perhaps a CR

pub strip_tail : (p : List ℕ) → (tail : List ℕ) × (p ≡ strip_carriage_return p ++ tail) × (is_blank tail ≡ true)
strip_tail p = elim (cases_Bool (slice_index p (length p - 1) == 13)) [
  | inr f ↦ ([], sym (append-nil (strip_carriage_return p) ∙ cond-false (slice_index p (length p - 1) == 13) (take (length p - 1) p) p f), refl)
  | inl t ↦
      let is : strip_carriage_return p ≡ take (length p - 1) p = cond-true (slice_index p (length p - 1) == 13) (take (length p - 1) p) p t in
      (drop (length p - 1) p, sym (ap (λ (x : List ℕ). x ++ drop (length p - 1) p) is ∙ take-append-drop (length p - 1) p), last_blank p t)
]
  where
    last_blank : (q : List ℕ) → (slice_index q (length q - 1) == 13) ≡ true → is_blank (drop (length q - 1) q) ≡ true
    last_blank [] t = refl
    last_blank (x ∷ q) t =
        let at = length (x ∷ q) - 1 in
        let whole : drop at (x ∷ q) ≡ 13 ∷ [] =
        drop_more (x ∷ q) at 0 (omega arith) ∙ ap (λ (b : ℕ). b ∷ drop (at + 1) (x ∷ q)) (eqb-true (slice_index (x ∷ q) at) 13 t)
        ∙ ap (λ (l : List ℕ). 13 ∷ l) (drop_all (at + 1) (x ∷ q) (omega arith)) in
        ap is_blank whole

-- ---- one section after the other

abbrev pub with_count : LineCounts → Section → ℕ → LineCounts
with_count c Start n = record c { start = n }
with_count c Global n = record c { global = n }
with_count c Directory n = record c { directory = n }
with_count c Param n = record c { param = n }
with_count c Terminate n = c

module _ (c : LineCounts) (m : ℕ) where
  count_is : (s : Section) → is_last s ≡ false → count_of (with_count c s m) s ≡ m
  count_is Start e = refl
  count_is Global e = refl
  count_is Directory e = refl
  count_is Param e = refl
  count_is Terminate e = absurd cc

  pub number_is_next : (s : Section) → is_last s ≡ false → next_number (with_count c s m) s ≡ m + 1
  number_is_next s e = ap (λ (k : ℕ). k + 1) (count_is s e)

  counted_is : (s : Section) → counted (with_count c s m) s ≡ with_count c s (m + 1)
  counted_is Start = refl
  counted_is Global = refl
  counted_is Directory = refl
  counted_is Param = refl
  counted_is Terminate = refl

  order_is : (s : Section) → is_in_order (with_count c s m) s ≡ is_in_order c s
  order_is Start = refl
  order_is Global = refl
  order_is Directory = refl
  order_is Param = refl
  order_is Terminate = refl

  due_is : (s : Section) → is_due (with_count c s m) s ≡ is_due c s
  due_is Start = refl
  due_is Global = refl
  due_is Directory = refl
  due_is Param = refl
  due_is Terminate = refl

-- the lines of a section were taken, and these pieces are left
pub record Walked (ps : Lines) (n : ℕ) (old new : LineCounts) (todo more : Lines) : Type 0 where
  pub left : Lines
  pub place : ℕ
  pub left_is : map strip_carriage_return left ≡ more
  pub same : laid ps n old ≡ before (flat_map ended todo) (laid left place new)
  pub placed : strays_from ps n old ≡ strays_from left place new

module _ (c : LineCounts) (s : Section) (other : is_last s ≡ false) (in_order : is_in_order c s ≡ true) (due : is_due c s ≡ true) where
  pub walk : (todo more ps : Lines) (n m : ℕ) → Numbered (letter_of s) (m + 1) todo → m + length todo ≤ 9999999 → map strip_carriage_return ps ≡ todo ++ more
      → Walked ps n (with_count c s m) (with_count c s (m + length todo)) todo more
  walk [] more ps n m h few is = record {
    left = ps;
    place = n;
    left_is = is;
    same = ap (laid ps n) (ap (with_count c s) (let e : m ≡ m + 0 = omega arith in e)) ∙ sym (before_none (laid ps n (with_count c s (m + 0))));
    placed = ap (strays_from ps n) (ap (with_count c s) (let e : m ≡ m + 0 = omega arith in e));
  }
  walk (l ∷ todo) more [] n m h few is = absurd (no_line (sym is))
    where
      no_line : l ∷ todo ++ more ≡ [] → ⊥
      no_line e = let k : length (l ∷ todo ++ more) ≡ 0 = ap length e in absurd (omega arith)
  walk (l ∷ todo) more (p ∷ ps) n m h few is =
      let here : strip_carriage_return p ≡ l = cc in
      let rest : map strip_carriage_return ps ≡ todo ++ more = cc in
      let tail = strip_tail p in
      let d = with_count c s m in
      let number : next_number d s ≡ m + 1 = ap (λ (k : ℕ). k + 1) (count_is c m s other) in
      let row = numbered_row d s l (subst (λ (k : ℕ). IsNumbered (letter_of s) k l) (sym number) h.0) (λ e. let no : false ≡ true = sym other
      ∙ ap is_last e in absurd cc) in
      let count = count_is c m s other in
      let fits : Fits d s = record { in_order = order_is c m s ∙ in_order; due = due_is c m s ∙ due; few = omega (arith, few, count) } in
      let w = walk todo more ps (n + 1) (m + 1) h.1 (omega (arith, few)) rest in
      record {
        left = w.left;
        place = w.place;
        left_is = w.left_is;
        same = kept_more ps n d s l tail.0 p (tail.1 ∙ ap (λ (x : List ℕ). x ++ tail.0) here) tail.2 row (fits_from d s fits) other
            ∙ ap (λ (k : LineCounts). before (ended l) (laid ps (n + 1) k)) (counted_is c m s)
            ∙ ap (before (ended l)) w.same
            ∙ before_both (ended l) (flat_map ended todo) (laid w.left w.place (with_count c s (m + 1 + length todo)))
            ∙ ap (λ (k : ℕ). before (flat_map ended (l ∷ todo)) (laid w.left w.place (with_count c s k))) (omega arith);
        placed = kept_placed ps n d s l tail.0 p (tail.1 ∙ ap (λ (x : List ℕ). x ++ tail.0) here) tail.2 row (fits_from d s fits) other
            ∙ ap (strays_from ps (n + 1)) (counted_is c m s)
            ∙ w.placed
            ∙ ap (λ (k : ℕ). strays_from w.left w.place (with_count c s k)) (omega arith);
      }

-- ---- the pieces of both readings

pub same_pieces : (bytes : List ℕ) → pieces 10 bytes ≡ read.pieces bytes
unfolding pieces
same_pieces [] = refl
same_pieces (b ∷ bytes) = ap (λ (ps : Lines). read.cut b ps) (same_pieces bytes)

-- ---- a file that is read has an LF

no_LF : (bytes : List ℕ) → list_any (λ b. b == 10) bytes ≡ false → is_in_line bytes ≡ true
no_LF [] h = refl
no_LF (b ∷ bytes) h =
    let parts = or_parts (b == 10) (list_any (λ x. x == 10) bytes) h in
    and_from (not (b == 10)) (is_in_line bytes) (not_from_false (b == 10) parts.0) (no_LF bytes parts.1)

one_line : (bytes : List ℕ) → is_in_line bytes ≡ true → length (lines bytes) ≤ 1
one_line [] h = omega arith
one_line (b ∷ bytes) h = let k : length (lines (b ∷ bytes)) ≡ 1 = ap (λ (ps : Lines). length (map strip_carriage_return ps))
    (last_piece (b ∷ bytes) h (omega arith)) in omega (arith, k)

module _ (bytes : List ℕ) (s : SectionLines) (within : length bytes ≤ FILE_LIMIT) (h : IsSectioned bytes s) where
  length_joined : length (joined s) ≡ length s.start + length s.global + length s.directory + length s.param
  length_joined = omega (
    arith,
    length-append (s.start ++ s.global ++ s.directory) s.param,
    length-append (s.start ++ s.global) s.directory,
    length-append s.start s.global,
  )

  has_end : end_byte bytes ≡ 10
  has_end = elim (cases_Bool (list_any (λ b. b == 10) bytes)) [
    | inl t ↦ cond-true (list_any (λ b. b == 10) bytes) 10 13 t
    | inr f ↦
        let few = one_line bytes (no_LF bytes f) in
        let start = h.some_start in
        let global = h.some_global in
        absurd (omega (arith, few, start, global, ap (λ (ls : Lines). length ls) h.whole, length-append (joined s) (h.last ∷ h.after), length_joined))
  ]

  kept : AreSections s
  kept = sections_kept bytes s within h

  few_joined : length (joined s) ≤ 2050000
  few_joined = let k = kept.within in omega (arith, k)

  pub same_file : relaid bytes ≡ Ok (flat_map ended (joined s ++ h.last ∷ []))
  same_file =
      let few = few_joined in
      let long = length_joined in
      let start = h.some_start in
      let global = h.some_global in
      let ps = pieces 10 bytes in
      let tail = h.last ∷ h.after in
      let whole : map strip_carriage_return ps ≡ s.start ++ (s.global ++ (s.directory ++ (s.param ++ tail))) =
      ap (λ (x : Lines). map strip_carriage_return x) (same_pieces bytes) ∙ h.whole ∙ append_assoc (s.start ++ s.global ++ s.directory) s.param tail
      ∙ append_assoc (s.start ++ s.global) s.directory (s.param ++ tail) ∙ append_assoc s.start s.global (s.directory ++ (s.param ++ tail)) in
      let c1 : LineCounts = record { start = length s.start; global = 0; directory = 0; param = 0 } in
      let c2 : LineCounts = record { start = length s.start; global = length s.global; directory = 0; param = 0 } in
      let c3 : LineCounts = record { start = length s.start; global = length s.global; directory = length s.directory; param = 0 } in
      let w1 = walk no_lines Start refl refl refl s.start (s.global ++ (s.directory ++ (s.param ++ tail))) ps 1 0 h.start (omega (arith, few, long)) whole in
      let w2 = walk c1 Global refl refl (some (length s.start) start) s.global (s.directory ++ (s.param ++ tail)) w1.left w1.place 0 h.global
      (omega (arith, few, long)) w1.left_is in
      let w3 = walk c2 Directory refl refl (some (length s.global) global) s.directory (s.param ++ tail) w2.left w2.place 0 h.directory
      (omega (arith, few, long)) w2.left_is in
      let w4 = walk c3 Param refl refl (some (length s.global) global) s.param tail w3.left w3.place 0 h.param (omega (arith, few, long)) w3.left_is in
      relaid_if bytes (flat_map ended (joined s ++ h.last ∷ [])) (ap (λ (b : ℕ). strays_from (pieces b bytes) 1 no_lines) has_end
      ∙ w1.placed
      ∙ ap (λ (n : ℕ). strays_from w1.left w1.place (with_count no_lines Start n)) (zero-add (length s.start))
      ∙ w2.placed
      ∙ ap (λ (n : ℕ). strays_from w2.left w2.place (with_count c1 Global n)) (zero-add (length s.global))
      ∙ w3.placed
      ∙ ap (λ (n : ℕ). strays_from w3.left w3.place (with_count c2 Directory n)) (zero-add (length s.directory))
      ∙ w4.placed
      ∙ ap (λ (n : ℕ). strays_from w4.left w4.place (with_count c3 Param n)) (zero-add (length s.param))
      ∙ last_piece_placed w4.left w4.place w4.left_is)
      (ap (λ (b : ℕ). laid (pieces b bytes) 1 no_lines) has_end
      ∙ w1.same
      ∙ ap (λ (n : ℕ). before (flat_map ended s.start) (laid w1.left w1.place (with_count no_lines Start n))) (zero-add (length s.start))
      ∙ ap (before (flat_map ended s.start)) (w2.same
      ∙ ap (λ (n : ℕ). before (flat_map ended s.global) (laid w2.left w2.place (with_count c1 Global n))) (zero-add (length s.global))
      ∙ ap (before (flat_map ended s.global)) (w3.same
      ∙ ap (λ (n : ℕ). before (flat_map ended s.directory) (laid w3.left w3.place (with_count c2 Directory n))) (zero-add (length s.directory))
      ∙ ap (before (flat_map ended s.directory)) (w4.same
      ∙ ap (λ (n : ℕ). before (flat_map ended s.param) (laid w4.left w4.place (with_count c3 Param n))) (zero-add (length s.param))
      ∙ ap (before (flat_map ended s.param)) (last_piece_is w4.left w4.place w4.left_is))))
      ∙ ap (λ (x : List ℕ). Ok x) text_is)
    where
      some : (n : ℕ) → 0 < n → not (n == 0) ≡ true
      some n lt = not_from_false (n == 0) (ne_eqb n 0 (λ e. let k : n ≡ 0 = e in absurd (omega arith)))

      last_row : IsRow (counts_of s) Terminate h.last
      last_row = numbered_row (counts_of s) Terminate h.last h.terminate.numbered (λ e. terminate_holds s h.last h.terminate)

      last_fits : section_fault (counts_of s) Terminate ≡ None
      last_fits = fits_from (counts_of s) Terminate (last_due s h.some_global)

      last_piece_placed : (left : Lines) (n : ℕ) → map strip_carriage_return left ≡ h.last ∷ h.after → strays_from left n (counts_of s) ≡ []
      last_piece_placed [] n e = absurd cc
      last_piece_placed (p ∷ ps) n e =
          let here : strip_carriage_return p ≡ h.last = cc in
          let tail = strip_tail p in
          last_placed ps n (counts_of s) Terminate h.last tail.0 p (tail.1 ∙ ap (λ (x : List ℕ). x ++ tail.0) here) tail.2 last_row last_fits refl

      last_piece_is : (left : Lines) (n : ℕ) → map strip_carriage_return left ≡ h.last ∷ h.after → laid left n (counts_of s) ≡ Ok (ended h.last)
      last_piece_is [] n e = absurd cc
      last_piece_is (p ∷ ps) n e =
          let here : strip_carriage_return p ≡ h.last = cc in
          let tail = strip_tail p in
          kept_last ps n (counts_of s) h.last tail.0 p (tail.1 ∙ ap (λ (x : List ℕ). x ++ tail.0) here) tail.2 last_row last_fits

      both : (xs ys : Lines) → flat_map ended (xs ++ ys) ≡ flat_map ended xs ++ flat_map ended ys
      both [] ys = refl
      both (x ∷ xs) ys = ap (λ (t : List ℕ). ended x ++ t) (both xs ys) ∙ sym (append_assoc (ended x) (flat_map ended xs) (flat_map ended ys))

      text_is : flat_map ended s.start ++ (flat_map ended s.global ++ (flat_map ended s.directory ++ (flat_map ended s.param ++ ended h.last))) ≡ flat_map
          ended (joined s ++ h.last ∷ [])
      text_is =
          let a = flat_map ended s.start in
          let b = flat_map ended s.global in
          let c = flat_map ended s.directory in
          let d = flat_map ended s.param in
          sym (both (joined s) (h.last ∷ []) ∙ ap (λ (x : List ℕ). flat_map ended (joined s) ++ x) (append-nil (ended h.last))
          ∙ ap (λ (x : List ℕ). x ++ ended h.last) (both (s.start ++ s.global ++ s.directory) s.param
          ∙ ap (λ (x : List ℕ). x ++ d) (both (s.start ++ s.global) s.directory ∙ ap (λ (x : List ℕ). x ++ c) (both s.start s.global)))
          ∙ append_assoc (a ++ b ++ c) d (ended h.last) ∙ append_assoc (a ++ b) c (d ++ ended h.last) ∙ append_assoc a b (c ++ (d ++ ended h.last)))
