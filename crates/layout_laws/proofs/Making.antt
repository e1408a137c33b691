-- Pieces that are taken one after the other become the sections of a file.
use Rattle.std.proofs.Common.{◌≡◌, inl, inr, ℕ, ◌+◌, ◌<◌, Bool, true, false, not, List, [], ◌∷◌, ◌++◌, length, drop, map, Option, Ok, Err, refl, sym, ap, subst}
use Rattle.std.proofs.Common.{◌∙◌, append_assoc, arith, lit<}
use Rattle.std.specs.Prelude.{◌&&◌, ◌==◌, if◌then◌else◌, flat_map, slice_index}
use Rattle.std.specs.List.{AllByRecursion, list_all}
use Rattle.std.proofs.lemmas.Bool.{and_parts, cases_Bool, cond-true, cond-false, eqb-false}
use Rattle.std.proofs.lemmas.List.{append-nil}
use Rattle.iges_base.specs.Ended.{ended}
use Rattle.iges_base.specs.InLine.{is_in_line}
use Rattle.iges_base.proofs.Lists.{list_all-drop}
use Rattle.iges_lines.specs.Lines.{SectionLines, joined}
use Rattle.iges_lines.specs.Sectioned.{IsTerminate}
use Rattle.iges_write.proofs.Columns.{IsLine}
use Rattle.line_layout.specs.declared.change.Change.{Change}
use Rattle.line_layout.specs.declared.counting.LineCounts.{LineCounts}
use Rattle.line_layout.specs.declared.fault.LayoutReason.TheVariants.{Missing}
use Rattle.line_layout.specs.declared.judging.Judged.{Judged}
use Rattle.line_layout.specs.declared.judging.Judged.TheVariants.{Blank, Bad, Good}
use Rattle.line_layout.specs.declared.letters.Section.{Section}
use Rattle.line_layout.specs.declared.letters.Section.TheVariants.{Start, Global, Directory, Param, Terminate}
use Rattle.line_layout.specs.Changes.{changed_from, cuts}
use Rattle.line_layout.specs.Columns.{columns}
use Rattle.line_layout.specs.Counts.{next_number, counted}
use Rattle.line_layout.specs.Judging.{letter, judge}
use Rattle.line_layout.specs.Letters.{section_of, is_last}
use Rattle.line_layout.specs.Marks.{is_blank, has_letter_at, begins_with_two, unmarked}
use Rattle.line_layout.specs.Relaid.{before, at_end, step, laid}
use Rattle.line_layout.specs.Rows.{row}
use Rattle.line_layout.specs.Strays.{strays_from}
use Rattle.line_layout.proofs.GoodLines.{IsGood, good_line, blank_line}
use Rattle.layout_laws.specs.Counted.{counts_of}
use Rattle.layout_laws.specs.Kept.{ends, kept_lines, content_of}
use Rattle.layout_laws.proofs.Rows.{IsRow, good_row, made_row, letter_names, number_is, row_content}
use Rattle.layout_laws.proofs.RowUnchanged.{unchanged_last, unchanged_more}
use Rattle.layout_laws.proofs.Steps.{Lines, row_numbered, row_line, row_terminate, row_in_line, kept_more, kept_last, kept_placed, last_placed, Fits, fits_is, fits_from, put, counts_put}
use Rattle.layout_laws.proofs.Steps.{join_put, Begun, begun_put, last_due, global_of, before_ok}

-- What the pieces become behind these sections.
pub record Made (t : SectionLines) (ps : Lines) (text : List ℕ) : Type 0 where
  pub sections : SectionLines
  pub rows : Lines
  pub last : List ℕ
  pub text_is : text ≡ flat_map ended (rows ++ last ∷ [])
  pub join : joined sections ≡ joined t ++ rows
  pub begun : Begun sections
  pub some_global : 0 < length sections.global
  pub terminate : IsTerminate sections last
  pub are_lines : AllByRecursion IsLine (rows ++ last ∷ [])
  pub contents : map content_of rows ≡ map content_of (kept_lines ps)
  pub again : (n : ℕ) → laid (rows ++ last ∷ []) n (counts_of t) ≡ Ok text
  pub placed : (n : ℕ) → strays_from (rows ++ last ∷ []) n (counts_of t) ≡ []
  pub unchanged : (k : Change) (n : ℕ) → changed_from k (cuts 10 (flat_map ended (rows ++ last ∷ []))) n (counts_of t) ≡ []

unmarked_in_line : (piece : List ℕ) → is_in_line piece ≡ true → is_in_line (unmarked piece) ≡ true
unfolding unmarked
unmarked_in_line piece h =
    let bom = has_letter_at piece 75 && begins_with_two piece 239 187 && slice_index piece 2 == 191 in
    let feed = has_letter_at piece 73 && slice_index piece 0 == 12 in
    elim (cases_Bool bom) [
      | inl t ↦ ap is_in_line (cond-true bom (drop 3 piece) (if feed then drop 1 piece else piece) t) ∙ list_all-drop (λ b. not (b == 10)) 3 piece h
      | inr f ↦
          ap is_in_line (cond-false bom (drop 3 piece) (if feed then drop 1 piece else piece) f)
          ∙ elim (cases_Bool feed) [
            | inl t ↦ ap is_in_line (cond-true feed (drop 1 piece) piece t) ∙ list_all-drop (λ b. not (b == 10)) 1 piece h
            | inr f ↦ ap is_in_line (cond-false feed (drop 1 piece) piece f) ∙ h
          ]
    ]

kept_blank : (c : LineCounts) (piece : List ℕ) (ps : Lines) → judge c piece ≡ Blank → kept_lines (piece ∷ ps) ≡ kept_lines ps
unfolding kept_lines
kept_blank c piece ps is = cond-true (is_blank (unmarked piece)) _ _ (blank_line c piece is)

-- ---- the last line

made_last : (t : SectionLines) (ps : Lines) (text r : List ℕ) → Begun t → Fits (counts_of t) Terminate → IsRow (counts_of t) Terminate r → is_in_line r ≡ true
    → text ≡ ended r → kept_lines ps ≡ [] → Made t ps text
made_last t ps text r begun fits w inside is none = record {
  sections = t;
  rows = [];
  last = r;
  text_is = is ∙ sym (append-nil (ended r));
  join = sym (append-nil (joined t));
  begun = begun;
  some_global = global_of t fits;
  terminate = row_terminate t r w;
  are_lines = (row_line (counts_of t) Terminate r w inside, tt);
  contents = ap (λ (ls : Lines). map content_of ls) (sym none);
  again = λ n. kept_last [] n (counts_of t) r [] r (sym (append-nil r)) refl w (fits_from (counts_of t) Terminate fits) ∙ ap (λ (x : List ℕ). Ok x) (sym is);
  placed = λ n. last_placed [] n (counts_of t) Terminate r [] r (sym (append-nil r)) refl w (fits_from (counts_of t) Terminate fits) refl;
  unchanged = λ k n. unchanged_last (counts_of t) Terminate r w inside (fits_from (counts_of t) Terminate fits) k n [] refl refl;
}

-- ---- a line before others

module _ (t : SectionLines) (piece : List ℕ) (ps : Lines) (n : ℕ) (text : List ℕ) (begun : Begun t) (inside : is_in_line piece ≡ true) (s : Section)
    (good : IsGood (counts_of t) (unmarked piece) s) where
  fits : Fits (counts_of t) s
  fits = fits_is (counts_of t) s good.fits

  small : next_number (counts_of t) s < 10000000
  small = let few = fits.few in omega (arith, few)

  w : IsRow (counts_of t) s (row (counts_of t) s (unmarked piece))
  w = good_row t begun.few s (unmarked piece) good small

  row_inside : is_in_line (row (counts_of t) s (unmarked piece)) ≡ true
  row_inside = row_in_line (counts_of t) s (unmarked piece) begun.few (unmarked_in_line piece inside)
      (number_is (next_number (counts_of t) s) (unmarked piece) small).1

  kept_here : (b : Bool) → is_last s ≡ b → kept_lines (piece ∷ ps) ≡ (if b then [] else unmarked piece ∷ kept_lines ps)
  unfolding kept_lines
  kept_here b e =
      cond-false (is_blank (unmarked piece)) _ _ good.some
      ∙ ap (λ (x : Bool). if x then [] else unmarked piece ∷ kept_lines ps) (ap ends good.section ∙ e)

  pub made_line : is_last s ≡ false → ((t' : SectionLines) (text' : List ℕ) → Begun t' → laid ps (n + 1) (counts_of t') ≡ Ok text' → Made t' ps text')
      → before (ended (row (counts_of t) s (unmarked piece))) (laid ps (n + 1) (counted (counts_of t) s)) ≡ Ok text → Made t (piece ∷ ps) text
  made_line other next e =
      let c = counts_of t in
      let r = row c s (unmarked piece) in
      let t' = put t s r in
      let b = before_ok (ended r) (laid ps (n + 1) (counted c s)) text e in
      let more = b.0 in
      let m = next t' more (begun_put t s r begun fits (row_numbered c s r w)) (ap (laid ps (n + 1)) (counts_put t s r) ∙ b.1) in
      record {
        sections = m.sections;
        rows = r ∷ m.rows;
        last = m.last;
        text_is = b.2 ∙ ap (λ (x : List ℕ). ended r ++ x) m.text_is;
        join = m.join ∙ ap (λ (x : Lines). x ++ m.rows) (join_put t s r other fits.in_order) ∙ append_assoc (joined t) (r ∷ []) m.rows;
        begun = m.begun;
        some_global = m.some_global;
        terminate = m.terminate;
        are_lines = (row_line c s r w row_inside, m.are_lines);
        contents = ap (λ (x : List ℕ × Option Section). x ∷ map content_of m.rows) (same_content other)
            ∙ ap (λ (x : List (List ℕ × Option Section)). content_of (unmarked piece) ∷ x) m.contents
            ∙ ap (λ (ls : Lines). map content_of ls) (sym (kept_here false other));
        again = λ k. kept_more (m.rows ++ m.last ∷ []) k c s r [] r (sym (append-nil r)) refl w good.fits other
            ∙ ap (before (ended r)) (ap (laid (m.rows ++ m.last ∷ []) (k + 1)) (sym (counts_put t s r)) ∙ m.again (k + 1))
            ∙ ap (λ (x : List ℕ). Ok x) (sym b.2);
        placed = λ k. kept_placed (m.rows ++ m.last ∷ []) k c s r [] r (sym (append-nil r)) refl w good.fits other
            ∙ ap (strays_from (m.rows ++ m.last ∷ []) (k + 1)) (sym (counts_put t s r)) ∙ m.placed (k + 1);
        unchanged = λ k i. unchanged_more c s r w row_inside good.fits k i (flat_map ended (m.rows ++ m.last ∷ [])) other
            (ap (changed_from k (cuts 10 (flat_map ended (m.rows ++ m.last ∷ []))) (i + 1)) (sym (counts_put t s r)) ∙ m.unchanged k (i + 1));
      }
    where
      same_content : is_last s ≡ false → content_of (row (counts_of t) s (unmarked piece)) ≡ content_of (unmarked piece)
      same_content other =
          let numbered = row_numbered (counts_of t) s (row (counts_of t) s (unmarked piece)) w in
          ap (λ (x : List ℕ). (x, section_of (letter (row (counts_of t) s (unmarked piece))))) (row_content t begun.few s (unmarked piece) good small other)
          ∙ ap (λ (o : Option Section). (columns 1 72 (unmarked piece), o)) (ap section_of numbered.letter_is ∙ letter_names s ∙ sym good.section)

  pub made_end : s ≡ Terminate → text ≡ ended (row (counts_of t) s (unmarked piece)) → Made t (piece ∷ ps) text
  made_end is e =
      made_last t (piece ∷ ps) text (row (counts_of t) s (unmarked piece)) begun (subst (λ (x : Section). Fits (counts_of t) x) is fits)
      (subst (λ (x : Section). IsRow (counts_of t) x (row (counts_of t) s (unmarked piece))) is w) row_inside e (kept_here true (ap is_last is))

made_piece : (t : SectionLines) (piece : List ℕ) (ps : Lines) (n : ℕ) (text : List ℕ) → Begun t → is_in_line piece ≡ true
    → ((t' : SectionLines) (text' : List ℕ) → Begun t' → laid ps (n + 1) (counts_of t') ≡ Ok text' → Made t' ps text')
    → (j : Judged) → judge (counts_of t) piece ≡ j → step n (counts_of t) (unmarked piece) j (laid ps (n + 1)) ≡ Ok text → Made t (piece ∷ ps) text
made_piece t piece ps n text begun inside next Blank is e =
    let m = next t text begun e in
    record {
      sections = m.sections;
      rows = m.rows;
      last = m.last;
      text_is = m.text_is;
      join = m.join;
      begun = m.begun;
      some_global = m.some_global;
      terminate = m.terminate;
      are_lines = m.are_lines;
      contents = m.contents ∙ ap (λ (ls : Lines). map content_of ls) (sym (kept_blank (counts_of t) piece ps is));
      again = m.again;
      placed = m.placed;
      unchanged = m.unchanged;
    }
made_piece t piece ps n text begun inside next (Bad reason) is e = absurd cc
made_piece t piece ps n text begun inside next (Good Start) is e = made_line t piece ps n text begun inside Start
    (good_line (counts_of t) piece Start is) refl next e
made_piece t piece ps n text begun inside next (Good Global) is e = made_line t piece ps n text begun inside Global
    (good_line (counts_of t) piece Global is) refl next e
made_piece t piece ps n text begun inside next (Good Directory) is e = made_line t piece ps n text begun inside Directory
    (good_line (counts_of t) piece Directory is) refl next e
made_piece t piece ps n text begun inside next (Good Param) is e = made_line t piece ps n text begun inside Param
    (good_line (counts_of t) piece Param is) refl next e
made_piece t piece ps n text begun inside next (Good Terminate) is e =
    let same : text ≡ ended (row (counts_of t) Terminate (unmarked piece)) = cc in
    made_end t piece ps n text begun inside Terminate (good_line (counts_of t) piece Terminate is) refl same

-- ---- all pieces

made_none : (t : SectionLines) (n : ℕ) (text : List ℕ) → Begun t → at_end n (counts_of t) ≡ Ok text → Made t [] text
unfolding at_end kept_lines
made_none t n text begun e =
    elim (cases_Bool (length t.param == 0)) [
      | inl z ↦ let no : Err (record { line = n; reason = Missing }) ≡ Ok text = sym (cond-true (length t.param == 0) _ _ z) ∙ e in absurd cc
      | inr f ↦
          let c = counts_of t in
          let r = row c Terminate [] in
          let is : Ok (ended r) ≡ Ok text = sym (cond-false (length t.param == 0) _ _ f) ∙ e in
          let none = eqb-false (length t.param) 0 f in
          let w = made_row t begun.few in
          let same : text ≡ ended r = cc in
          made_last t [] text r begun (last_due t (begun.before_param (omega arith))) w
          (row_in_line c Terminate [] begun.few refl (number_is 1 [] (lit< tt)).1) same refl
    ]

pub made : (ps : Lines) (n : ℕ) (t : SectionLines) (text : List ℕ) → Begun t → list_all is_in_line ps ≡ true → laid ps n (counts_of t) ≡ Ok text
    → Made t ps text
unfolding laid
made [] n t text begun h e = made_none t n text begun e
made (piece ∷ ps) n t text begun h e =
    let p = and_parts (is_in_line piece) (list_all is_in_line ps) h in
    made_piece t piece ps n text begun p.0 (λ t' text' b k. made ps (n + 1) t' text' b p.1 k) (judge (counts_of t) piece) refl e
