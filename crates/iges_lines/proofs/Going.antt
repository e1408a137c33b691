-- One line after the other is the reading of the sections.
use Rattle.std.proofs.Common.{◌≡◌, inl, inr, ℕ, zero, suc, ◌+◌, ◌<◌, ◌≤◌, Bool, true, false, cond, not, ◌||◌, List, [], ◌∷◌, ◌++◌, length, take, Option, Some}
use Rattle.std.proofs.Common.{None, Result, Ok, Err, refl, sym, ap, subst, ◌∙◌, arith, length-append}
use Rattle.std.specs.Prelude.{◌==◌, slice_get, MatchOption, is_some}
use Rattle.std.proofs.Math.Bool.{or-false}
use Rattle.std.proofs.lemmas.Bool.{cases_order, ne_eqb, eqb-true}
use Rattle.std.proofs.lemmas.List.{append-nil, take-append-le}
use Rattle.std.proofs.lemmas.List.Elements.{filter-append}
use Rattle.std.proofs.lemmas.List.Folds.{list_any-append}
use Rattle.iges_base.specs.First.{first_failing, IsFirst}
use Rattle.iges_base.proofs.Tests.{passes}
use Rattle.iges_lines.specs.declared.reason.Reason.{Reason}
use Rattle.iges_lines.specs.declared.reason.Reason.TheVariants.{Missing, After}
use Rattle.iges_lines.specs.declared.fault.LineFault.{LineFault}
use Rattle.iges_lines.specs.declared.fault.PassFault.TheVariants as faults
use Rattle.iges_lines.specs.declared.fault.PassFault.{PassFault}
use Rattle.iges_lines.specs.declared.kind.Kind.{Kind}
use Rattle.iges_lines.specs.declared.kind.Kind.TheVariants as kind
use Rattle.iges_lines.specs.Judged.{tests_behind, IsAdded}
use Rattle.iges_lines.specs.Feeding.{Taken, ArePassed, FailsAt, AreTaken}
use Rattle.iges_lines.specs.Gives.{Fails, Gives, IfBad}
use Rattle.iges_lines.specs.Kinds.{IsKind, added, is_last}
use Rattle.iges_lines.specs.Lines.{SectionLines, lines, letter}
use Rattle.iges_lines.specs.LineFaults.{of_letter, sections_of, line_tests, is_terminated, fault_behind, line_fault, IsLineFault}
use Rattle.iges_lines.specs.Reading.{sections_unless, read_sections}
use Rattle.iges_lines.specs.Sectioned.{is_blank}
use Rattle.iges_lines.proofs.Exact.{read_sections-IsLineFault, IsLineFault-read_sections}
use Rattle.iges_lines.proofs.First.{first_from-faultless}
use Rattle.iges_lines.proofs.Walk.{all_four, blank_letter, fault_at_line, fault_past}

abbrev Lines : Type 0
Lines = List (List ℕ)

-- ---- the sections with one more line

one_more : (x b : ℕ) (t : Bool) (before : Lines) (l : List ℕ) → letter l ≡ b → (b == x) ≡ t →
    of_letter x (before ++ l ∷ []) ≡ of_letter x before ++ cond t (l ∷ []) []
one_more x b t before l is e =
    filter-append (λ y. letter y == x) before (l ∷ []) ∙ ap (λ (u : Bool). of_letter x before ++ cond u (l ∷ []) []) (ap (λ (y : ℕ). y == x) is ∙ e)

not_more : (x b : ℕ) (before : Lines) (l : List ℕ) → letter l ≡ b → (b == x) ≡ false → of_letter x (before ++ l ∷ []) ≡ of_letter x before
not_more x b before l is e = one_more x b false before l is e ∙ append-nil (of_letter x before)

with_line : (k : Kind) (before : Lines) (l : List ℕ) → IsKind k (letter l) → sections_of (before ++ l ∷ []) ≡ added (sections_of before) k l
with_line kind.Start before l e = all_four (one_more 83 83 true before l e refl) (not_more 71 83 before l e refl) (not_more 68 83 before l e refl)
    (not_more 80 83 before l e refl)
with_line kind.Global before l e = all_four (not_more 83 71 before l e refl) (one_more 71 71 true before l e refl) (not_more 68 71 before l e refl)
    (not_more 80 71 before l e refl)
with_line kind.Directory before l e = all_four (not_more 83 68 before l e refl) (not_more 71 68 before l e refl) (one_more 68 68 true before l e refl)
    (not_more 80 68 before l e refl)
with_line kind.Param before l e = all_four (not_more 83 80 before l e refl) (not_more 71 80 before l e refl) (not_more 68 80 before l e refl)
    (one_more 80 80 true before l e refl)
with_line kind.Terminate before l e = all_four (not_more 83 84 before l e refl) (not_more 71 84 before l e refl) (not_more 68 84 before l e refl)
    (not_more 80 84 before l e refl)
with_line kind.Other before l e =
    all_four (not_more 83 (letter l) before l refl (ne_eqb _ _ e.0)) (not_more 71 (letter l) before l refl (ne_eqb _ _ e.1))
    (not_more 68 (letter l) before l refl (ne_eqb _ _ e.2)) (not_more 80 (letter l) before l refl (ne_eqb _ _ e.3))

last_is : (k : Kind) (b : ℕ) → IsKind k b → (b == 84) ≡ is_last k
last_is kind.Start b e = ap (λ (x : ℕ). x == 84) e
last_is kind.Global b e = ap (λ (x : ℕ). x == 84) e
last_is kind.Directory b e = ap (λ (x : ℕ). x == 84) e
last_is kind.Param b e = ap (λ (x : ℕ). x == 84) e
last_is kind.Terminate b e = ap (λ (x : ℕ). x == 84) e
last_is kind.Other b e = ne_eqb b 84 e.4

ended_with : (before : Lines) (l : List ℕ) (t : Bool) → is_terminated before ≡ t → is_terminated (before ++ l ∷ []) ≡ (t || (letter l == 84 || false))
ended_with before l t e = list_any-append (λ y. letter y == 84) before (l ∷ []) ∙ ap (λ (u : Bool). u || (letter l == 84 || false)) e

-- a blank line is of no section
blank_line : (before : Lines) (l : List ℕ) → is_blank l ≡ true → sections_of (before ++ l ∷ []) ≡ sections_of before
blank_line before l e =
    let no = λ (x : ℕ) (a : (x == 32) ≡ false) (b : (x == 13) ≡ false) (c : (x == 0) ≡ false). not_more x (letter l) before l refl (blank_letter x l e a b c) in
    all_four (no 83 refl refl refl) (no 71 refl refl refl) (no 68 refl refl refl) (no 80 refl refl refl)

-- ---- a fault among lines is one of them with more lines behind

get_front : (ls more : Lines) (i : ℕ) → i < length ls → slice_get (ls ++ more) i ≡ slice_get ls i
get_front [] more i h = absurd (omega arith)
get_front (l ∷ ls) more zero h = refl
get_front (l ∷ ls) more (suc i) h = get_front ls more i (omega arith)

fault_front : (ls more : Lines) (i : ℕ) → i < length ls → line_fault (ls ++ more) i ≡ line_fault ls i
fault_front ls more i h =
    ap (λ (x : Lines). fault_behind x (slice_get (ls ++ more) i)) (take-append-le i ls more (omega arith))
    ∙ ap (fault_behind (take i ls)) (get_front ls more i h)

first_front : (ls more : Lines) (place : ℕ) (r : Reason) → place < length ls → IsFirst (line_fault ls) place r → IsFirst (line_fault (ls ++ more)) place r
first_front ls more place r h first = record {
  here = fault_front ls more place h ∙ first.here;
  before =
      λ i lt. fault_front ls more i (omega arith) ∙ first.before i lt;
}

pub fails_more : (ls more : Lines) (f : LineFault) → FailsAt ls f → FailsAt (ls ++ more) f
fails_more ls more f h =
    let w = h.within in
    record { place = h.place; within = omega (arith, w, length-append ls more); line = h.line; first = first_front ls more h.place f.reason h.within h.first }

pub fails_line : (bytes : List ℕ) (f : LineFault) → FailsAt (lines bytes) f → IsLineFault bytes f
fails_line bytes f h = (h.place, h.line, h.first)

-- ---- lines without a fault

module _ (before : Lines) (t : Taken) (gone : ArePassed before t) where
  tests_are : (line : List ℕ) → first_failing (tests_behind t.terminated t.sections line) ≡ fault_behind before (Some line)
  tests_are line =
      ap (λ (x : SectionLines). first_failing (tests_behind t.terminated x line)) gone.sections ∙ ap
      (λ (u : Bool). first_failing (tests_behind u (sections_of before) line)) gone.terminated

  here : (line : List ℕ) → line_fault (before ++ line ∷ []) (length before) ≡ first_failing (tests_behind t.terminated t.sections line)
  here line = fault_at_line before line [] ∙ sym (tests_are line)

  passed_before : (line : List ℕ) (j : ℕ) → j < length before → line_fault (before ++ line ∷ []) j ≡ None
  passed_before line j h = fault_front before (line ∷ []) j h ∙ gone.passed j h

  -- the next one fails
  pub gone_fault : (line : List ℕ) (r : Reason) → Some r ≡ first_failing (tests_behind t.terminated t.sections line) →
      FailsAt (before ++ line ∷ []) (record { line = t.number; reason = r })
  gone_fault line r e = record {
    place = length before;
    within = omega (arith, length-append before (line ∷ []));
    line = gone.number;
    first = record { here = here line ∙ sym e; before = λ i h. passed_before line i h };
  }

  added_by : (line : List ℕ) (new : SectionLines) (now u : Bool) → t.terminated ≡ u → None ≡ first_failing (tests_behind t.terminated t.sections line) →
      IsAdded t.sections u line new now
      → (new ≡ sections_of (before ++ line ∷ [])) × (now ≡ is_terminated (before ++ line ∷ []))
  added_by line new now true e none h =
      let p = passes ((is_blank line, After) ∷ []) (ap (λ (u : Bool). first_failing (tests_behind u t.sections line)) (sym e) ∙ sym none) in (
        h.0 ∙ gone.sections ∙ sym (blank_line before line p.0),
        h.1 ∙ sym (ended_with before line true (sym gone.terminated ∙ e)),
      )
  added_by line new now false e none h = (
    h.2 ∙ ap (λ (x : SectionLines). added x h.0 line) gone.sections ∙ sym (with_line h.0 before line h.1),
    h.3 ∙ sym (last_is h.0 (letter line) h.1) ∙ sym (or-false (letter line == 84)) ∙ sym (ended_with before line false (sym gone.terminated ∙ e)),
  )

  -- the next one passes
  pub gone_next : (line : List ℕ) → None ≡ first_failing (tests_behind t.terminated t.sections line) → (new : Taken) →
      IsAdded t.sections t.terminated line new.sections new.terminated → new.number ≡ t.number + 1
      → ArePassed (before ++ line ∷ []) new
  gone_next line none new is_added next =
      let state = added_by line new.sections new.terminated t.terminated refl none is_added in
      let c = gone.number in
      record {
        passed = λ j h. elim (cases_order j (length before)) [
          | inl eq ↦ ap (line_fault (before ++ line ∷ [])) eq ∙ here line ∙ sym none
          | inr (inl lt) ↦ passed_before line j lt
          | inr (inr gt) ↦ absurd (omega (arith, h, length-append before (line ∷ [])))
        ];
        sections = state.0;
        terminated = state.1;
        number = omega (arith, c, next, length-append before (line ∷ []));
      }

-- a line that passes is whole where no terminate line comes before it
pub line_whole : (s : SectionLines) (t : Bool) (line : List ℕ) → None ≡ first_failing (tests_behind t s line) → t ≡ false → length line ≡ 80
line_whole s t line none open_still =
    let p = passes (line_tests s line) (ap (λ (u : Bool). first_failing (tests_behind u s line)) (sym open_still) ∙ sym none) in
    eqb-true (length line) 80 p.1.0

-- ---- lines that were taken, whether one fails or not

abbrev pub NextTaken : Taken → List ℕ → Taken → Type 0
NextTaken old line new = (ls : Lines) → AreTaken ls old → AreTaken (ls ++ line ∷ []) new

passed_of : (ls : Lines) (t : Taken) → t.fault ≡ None → AreTaken ls t → ArePassed ls t
passed_of ls t e h = subst (λ (o : Option LineFault). MatchOption o (ArePassed ls t) (FailsAt ls)) e h

taken_passed : (ls : Lines) (t : Taken) → t.fault ≡ None → ArePassed ls t → AreTaken ls t
taken_passed ls t e h = subst (λ (o : Option LineFault). MatchOption o (ArePassed ls t) (FailsAt ls)) (sym e) h

taken_fails : (ls : Lines) (t : Taken) (f : LineFault) → t.fault ≡ Some f → FailsAt ls f → AreTaken ls t
taken_fails ls t f e h = subst (λ (o : Option LineFault). MatchOption o (ArePassed ls t) (FailsAt ls)) (sym e) h

fails_of : (ls : Lines) (t : Taken) (f : LineFault) → t.fault ≡ Some f → AreTaken ls t → FailsAt ls f
fails_of ls t f e h = subst (λ (o : Option LineFault). MatchOption o (ArePassed ls t) (FailsAt ls)) e h

-- behind a fault nothing changes
pub taken_behind : (ls more : Lines) (t : Taken) (f : LineFault) → t.fault ≡ Some f → AreTaken ls t → AreTaken (ls ++ more) t
taken_behind ls more t f e h = taken_fails (ls ++ more) t f e (fails_more ls more f (fails_of ls t f e h))

pub taken_fault : (ls : Lines) (old new : Taken) (line : List ℕ) (r : Reason) → old.fault ≡ None →
    Some r ≡ first_failing (tests_behind old.terminated old.sections line)
    → new.fault ≡ Some (record { line = old.number; reason = r }) → AreTaken ls old → AreTaken (ls ++ line ∷ []) new
taken_fault ls old new line r none e is h = taken_fails (ls ++ line ∷ []) new (record { line = old.number; reason = r }) is
    (gone_fault ls old (passed_of ls old none h) line r e)

pub taken_next : (ls : Lines) (old new : Taken) (line : List ℕ) → old.fault ≡ None → None ≡ first_failing (tests_behind old.terminated old.sections line)
    → IsAdded old.sections old.terminated line new.sections new.terminated → new.number ≡ old.number + 1 → new.fault ≡ None → AreTaken ls old →
    AreTaken (ls ++ line ∷ []) new
taken_next ls old new line none e is_added next is h = taken_passed (ls ++ line ∷ []) new is
    (gone_next ls old (passed_of ls old none h) line e new is_added next)

-- ---- the end

module _ (bytes : List ℕ) (t : Taken) (h : AreTaken (lines bytes) t) where
  pub end_fault : (f : LineFault) → t.fault ≡ Some f → read_sections bytes ≡ Err f
  end_fault f e = IsLineFault-read_sections bytes f (fails_line bytes f (fails_of (lines bytes) t f e h))

  at_end : t.fault ≡ None → (u : Bool) → t.terminated ≡ u → line_fault (lines bytes) (length (lines bytes)) ≡ cond u None (Some Missing)
  at_end none u e =
      let gone = passed_of (lines bytes) t none h in
      fault_past (lines bytes) (length (lines bytes)) (omega arith) ∙ ap (λ (v : Bool). cond v None (Some Missing)) (sym gone.terminated ∙ e)

  pub end_missing : t.fault ≡ None → t.terminated ≡ false → read_sections bytes ≡ Err (record { line = t.number; reason = Missing })
  end_missing none e =
      let gone = passed_of (lines bytes) t none h in
      IsLineFault-read_sections bytes (record { line = t.number; reason = Missing })
      (length (lines bytes), gone.number, record { here = at_end none false e; before = gone.passed })

  faultless : t.fault ≡ None → t.terminated ≡ true → (j : ℕ) → j ≤ length (lines bytes) → line_fault (lines bytes) j ≡ None
  faultless none e j le =
      elim (cases_order j (length (lines bytes))) [
        | inl eq ↦ ap (line_fault (lines bytes)) eq ∙ at_end none true e
        | inr (inl lt) ↦ (passed_of (lines bytes) t none h).passed j lt
        | inr (inr gt) ↦ absurd (omega arith)
      ]

  pub end_all : t.fault ≡ None → t.terminated ≡ true → read_sections bytes ≡ Ok t.sections
  unfolding read_sections
  end_all none e =
      let ls = lines bytes in
      ap (sections_unless ls) (first_from-faultless (line_fault ls) (length ls + 1) 0 (λ j low high. faultless none e j (omega arith)))
      ∙ ap (λ (x : SectionLines). Ok x) (sym (passed_of ls t none h).sections)

-- ---- the public clauses

pub left_fault : (bytes : List ℕ) (e : PassFault) → Fails e (read_sections bytes) → IfBad {X = SectionLines} (Err e) (IsLineFault bytes)
left_fault bytes (faults.Bad f) h = read_sections-IsLineFault bytes f h
left_fault bytes faults.NoMemory h = tt

pub left_as : (bytes : List ℕ) (e : PassFault) (r : Result SectionLines LineFault) → read_sections bytes ≡ r → Fails e (read_sections bytes) →
    Gives {Y = SectionLines} (Err e) r
left_as bytes e r is h = subst (Fails e) is h

-- ---- of tests and answers

pub none_from : (o : Option LineFault) (b : Bool) → b ≡ is_some o → b ≡ false → o ≡ None
none_from None b is e = refl
none_from (Some f) b is e = let no : false ≡ true = sym e ∙ is in absurd cc

pub some_from : (o : Option LineFault) (b : Bool) → b ≡ is_some o → b ≡ true → (f : LineFault) × (o ≡ Some f)
some_from None b is e = let no : true ≡ false = sym e ∙ is in absurd cc
some_from (Some f) b is e = (f, refl)

pub fault_taken : (ls : Lines) (old : Taken) (line : List ℕ) (r : Reason) → old.fault ≡ None →
    Some r ≡ first_failing (tests_behind old.terminated old.sections line) → AreTaken ls old
    → FailsAt (ls ++ line ∷ []) (record { line = old.number; reason = r })
fault_taken ls old line r none e h = gone_fault ls old (passed_of ls old none h) line r e

pub number_is : (ls : Lines) (t : Taken) → t.fault ≡ None → AreTaken ls t → t.number ≡ length ls + 1
number_is ls t none h = (passed_of ls t none h).number

pub true_from : (b : Bool) → not b ≡ false → b ≡ true
true_from true e = refl
true_from false e = absurd cc
