-- The first of six tests that fails.
use Rattle.std.proofs.Common.{◌≡◌, ℕ, suc, ◌+◌, Bool, true, false, not, ◌&&◌, ◌||◌, List, [], ◌∷◌, length, drop, Option, Some, None, sym, ap, ◌∙◌}
use Rattle.std.specs.Prelude.{◌==◌, nat_lt, nat_le, slice_index_or}
use Rattle.std.specs.List.{list_all}
use Rattle.std.proofs.lemmas.Bool.{not_from_false, eq-eqb, ne_eqb}
use Rattle.iges_base.specs.Word.{is_empty}
use Rattle.iges_base.specs.First.{first_failing}
use Rattle.iges_lines.specs.declared.reason.Reason.{Reason}
use Rattle.iges_lines.specs.declared.reason.Reason.TheVariants.{NotFixed, Length, Letter, Number, Counts, Missing}
use Rattle.iges_lines.specs.declared.kind.Kind.{Kind}
use Rattle.iges_lines.specs.declared.kind.Kind.TheVariants as kind
use Rattle.iges_lines.specs.Kinds.{place_of, IsKind}
use Rattle.iges_lines.specs.Lines.{SectionLines, sections, columns, letter, has_number}
use Rattle.iges_lines.specs.LineFaults.{section_place, has_count, tests_at, line_tests}
use Rattle.iges_lines.proofs.Walk.{none_place}

pub place_is : (k : Kind) (b : ℕ) → IsKind k b → place_of k ≡ section_place b
place_is kind.Start b e = ap section_place (sym e)
place_is kind.Global b e = ap section_place (sym e)
place_is kind.Directory b e = ap section_place (sym e)
place_is kind.Param b e = ap section_place (sym e)
place_is kind.Terminate b e = ap section_place (sym e)
place_is kind.Other b e = sym (none_place b (other 83 e.0) (other 71 e.1) (other 68 e.2) (other 80 e.3) (other 84 e.4))
  where
    other : (x : ℕ) → (b ≡ x → ⊥) → (x == b) ≡ false
    other x h = ne_eqb x b (λ is. h (sym is))

six : Bool → Bool → Bool → Bool → Bool → Bool → Option Reason
six a b c d e f = first_failing ((a, NotFixed) ∷ (b, Length) ∷ (c, Letter) ∷ (d, Missing) ∷ (e, Number) ∷ (f, Counts) ∷ [])

six_3 : (a b c d e f : Bool) → a ≡ true → b ≡ true → c ≡ false → six a b c d e f ≡ Some Letter
unfolding six
six_3 a b c d e f p q r = ap (λ (t : Bool). six t b c d e f) p ∙ ap (λ (t : Bool). six true t c d e f) q ∙ ap (λ (t : Bool). six true true t d e f) r

six_4 : (a b c d e f : Bool) → a ≡ true → b ≡ true → c ≡ true → d ≡ false → six a b c d e f ≡ Some Missing
unfolding six
six_4 a b c d e f p q r s = ap (λ (t : Bool). six t b c d e f) p ∙ ap (λ (t : Bool). six true t c d e f) q ∙ ap (λ (t : Bool). six true true t d e f) r ∙ ap
    (λ (t : Bool). six true true true t e f) s

six_5 : (a b c d e f : Bool) → a ≡ true → b ≡ true → c ≡ true → d ≡ true → e ≡ false → six a b c d e f ≡ Some Number
unfolding six
six_5 a b c d e f p q r s u =
    ap (λ (t : Bool). six t b c d e f) p ∙ ap (λ (t : Bool). six true t c d e f) q ∙ ap (λ (t : Bool). six true true t d e f) r ∙ ap
    (λ (t : Bool). six true true true t e f) s
    ∙ ap (λ (t : Bool). six true true true true t f) u

six_6 : (a b c d e f : Bool) → a ≡ true → b ≡ true → c ≡ true → d ≡ true → e ≡ true → f ≡ false → six a b c d e f ≡ Some Counts
unfolding six
six_6 a b c d e f p q r s u v =
    ap (λ (t : Bool). six t b c d e f) p ∙ ap (λ (t : Bool). six true t c d e f) q ∙ ap (λ (t : Bool). six true true t d e f) r ∙ ap
    (λ (t : Bool). six true true true t e f) s
    ∙ ap (λ (t : Bool). six true true true true t f) u ∙ ap (λ (t : Bool). six true true true true true t) v

six_none : (a b c d e f : Bool) → a ≡ true → b ≡ true → c ≡ true → d ≡ true → e ≡ true → f ≡ true → six a b c d e f ≡ None
unfolding six
six_none a b c d e f p q r s u v =
    ap (λ (t : Bool). six t b c d e f) p ∙ ap (λ (t : Bool). six true t c d e f) q ∙ ap (λ (t : Bool). six true true t d e f) r ∙ ap
    (λ (t : Bool). six true true true t e f) s
    ∙ ap (λ (t : Bool). six true true true true t f) u ∙ ap (λ (t : Bool). six true true true true true t) v

module _ (s : SectionLines) (k : Kind) (line : List ℕ) (b : ℕ) (b-is : b ≡ letter line) (is : IsKind k b) where
  abbrev pub OtherForm : Bool
  OtherForm = list_all is_empty (sections s) && (b == 66 || b == 67)

  abbrev pub InOrder : Bool
  InOrder = nat_lt (place_of k) 5 && list_all is_empty (drop (suc (place_of k)) (sections s))

  abbrev pub IsDue : Bool
  IsDue = (not (list_all is_empty (sections s)) || place_of k == 0) && (nat_le (place_of k) 1 || not (is_empty s.global))

  abbrev pub Next : ℕ
  Next = length (slice_index_or (sections s) (place_of k) []) + 1

  abbrev pub Counted : Bool
  Counted = nat_lt (place_of k) 4 || (has_count 83 s.start (columns 1 8 line) && has_count 71 s.global (columns 9 16 line)
      && has_count 68 s.directory (columns 17 24 line) && has_count 80 s.param (columns 25 32 line))

  whole : six (not OtherForm) (length line == 80) InOrder IsDue (has_number (columns 74 80 line) Next) Counted ≡ first_failing (line_tests s line)
  unfolding six
  whole =
      ap (λ (x : ℕ). first_failing ((not (list_all is_empty (sections s) && (x == 66 || x == 67)), NotFixed) ∷ drop 1 (tests_at s (place_of k) line))) b-is
      ∙ ap (λ (n : ℕ). first_failing (tests_at s n line)) (place_is k b is ∙ ap section_place b-is)

  module _ (form : OtherForm ≡ false) (long : length line ≡ 80) where
    pub judged_3 : InOrder ≡ false → Some Letter ≡ first_failing (line_tests s line)
    judged_3 e = sym (six_3 _ _ _ _ _ _ (not_from_false _ form) (eq-eqb _ _ long) e) ∙ whole

    pub judged_4 : InOrder ≡ true → IsDue ≡ false → Some Missing ≡ first_failing (line_tests s line)
    judged_4 e f = sym (six_4 _ _ _ _ _ _ (not_from_false _ form) (eq-eqb _ _ long) e f) ∙ whole

    module _ (field : List ℕ) (n : ℕ) (field-is : field ≡ columns 74 80 line) (n-is : n ≡ Next) where
      number_is : has_number field n ≡ has_number (columns 74 80 line) Next
      number_is = ap (λ (f : List ℕ). has_number f n) field-is ∙ ap (has_number (columns 74 80 line)) n-is

      pub judged_5 : InOrder ≡ true → IsDue ≡ true → has_number field n ≡ false → Some Number ≡ first_failing (line_tests s line)
      judged_5 e f g = sym (six_5 _ _ _ _ _ _ (not_from_false _ form) (eq-eqb _ _ long) e f (sym number_is ∙ g)) ∙ whole

      pub judged_6 : InOrder ≡ true → IsDue ≡ true → has_number field n ≡ true → Counted ≡ false → Some Counts ≡ first_failing (line_tests s line)
      judged_6 e f g h = sym (six_6 _ _ _ _ _ _ (not_from_false _ form) (eq-eqb _ _ long) e f (sym number_is ∙ g) h) ∙ whole

      pub judged_none : InOrder ≡ true → IsDue ≡ true → has_number field n ≡ true → Counted ≡ true → None ≡ first_failing (line_tests s line)
      judged_none e f g h = sym (six_none _ _ _ _ _ _ (not_from_false _ form) (eq-eqb _ _ long) e f (sym number_is ∙ g) h) ∙ whole
