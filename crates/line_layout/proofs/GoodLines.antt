-- What is known of a piece that is a good line.
use Rattle.std.proofs.Common.{◌≡◌, ℕ, ◌<◌, Bool, true, false, cond, List, Option, Some, None, refl, ◌∙◌, sym, ap}
use Rattle.std.proofs.lemmas.Bool.{ltb-true}
use Rattle.iges_base.proofs.Tests.{passes}
use Rattle.line_layout.specs.declared.counting.LineCounts.{LineCounts}
use Rattle.line_layout.specs.declared.fault.LayoutReason.{LayoutReason}
use Rattle.line_layout.specs.declared.judging.Judged.TheVariants.{Blank, Bad, Good}
use Rattle.line_layout.specs.declared.letters.Section.{Section}
use Rattle.line_layout.specs.Counts.{count_of}
use Rattle.line_layout.specs.Letters.{section_of}
use Rattle.line_layout.specs.Marks.{is_blank, unmarked}
use Rattle.line_layout.specs.Judging.{letter, line_fault, section_tests, section_fault, unless_named, unless_bad, judge_section, judge}

-- a good line
pub record IsGood (c : LineCounts) (line : List ℕ) (s : Section) : Type 0 where
  pub some : is_blank line ≡ false
  pub no_fault : line_fault line ≡ None
  pub section : section_of (letter line) ≡ Some s
  pub fits : section_fault c s ≡ None

module _ (c : LineCounts) (piece : List ℕ) (s : Section) where
  by_fault : (t : Section) (f : Option LayoutReason) → unless_bad f (Good t) ≡ Good s → (t ≡ s) × (f ≡ None)
  by_fault t (Some r) e = absurd cc
  by_fault t None e = (cc, refl)

  by_parts : (line : List ℕ) (b : Bool) (f : Option LayoutReason) (o : Option Section) → is_blank line ≡ b → line_fault line ≡ f → section_of (letter line) ≡ o
      → cond b Blank (unless_named piece f (judge_section c o)) ≡ Good s → IsGood c line s
  by_parts line true f o p q r e = absurd cc
  by_parts line false (Some reason) o p q r e = absurd cc
  by_parts line false None None p q r e = absurd cc
  by_parts line false None (Some t) p q r e =
      let k = by_fault t (section_fault c t) e in
      record { some = p; no_fault = q; section = r ∙ ap (λ (u : Section). Some u) k.0; fits = ap (section_fault c) (sym k.0) ∙ k.1 }

  pub good_line : judge c piece ≡ Good s → IsGood c (unmarked piece) s
  unfolding judge
  good_line e = by_parts (unmarked piece) (is_blank (unmarked piece)) (line_fault (unmarked piece)) (section_of (letter (unmarked piece))) refl refl refl e

-- and the other way
pub judged_good : (c : LineCounts) (piece : List ℕ) (s : Section) → IsGood c (unmarked piece) s → judge c piece ≡ Good s
unfolding judge
judged_good c piece s h =
    let line = unmarked piece in
    ap (λ (b : Bool). cond b Blank (unless_named piece (line_fault line) (judge_section c (section_of (letter line))))) h.some
    ∙ ap (λ (f : Option LayoutReason). unless_named piece f (judge_section c (section_of (letter line)))) h.no_fault
    ∙ ap (λ (o : Option Section). judge_section c o) h.section
    ∙ ap (λ (f : Option LayoutReason). unless_bad f (Good s)) h.fits

-- a blank piece
pub blank_line : (c : LineCounts) (piece : List ℕ) → judge c piece ≡ Blank → is_blank (unmarked piece) ≡ true
unfolding judge
blank_line c piece e = by_parts (is_blank (unmarked piece)) (line_fault (unmarked piece)) (section_of (letter (unmarked piece))) e
  where
    by_fits : (s : Section) (f : Option LayoutReason) → unless_bad f (Good s) ≡ Blank → ⊥
    by_fits s (Some r) h = let no : Bad r ≡ Blank = h in absurd cc
    by_fits s None h = let no : Good s ≡ Blank = h in absurd cc

    by_parts : (b : Bool) (f : Option LayoutReason) (o : Option Section) → cond b Blank (unless_named piece f (judge_section c o)) ≡ Blank → b ≡ true
    by_parts true f o h = refl
    by_parts false (Some reason) o h = absurd cc
    by_parts false None None h = absurd cc
    by_parts false None (Some s) h = absurd (by_fits s (section_fault c s) h)

-- seven columns can hold its number
pub few_before : (c : LineCounts) (s : Section) → section_fault c s ≡ None → count_of c s < 9999999
unfolding section_fault
few_before c s e = ltb-true (count_of c s) 9999999 (passes (section_tests c s) e).1.1.0
