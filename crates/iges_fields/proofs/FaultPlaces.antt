-- The place of a fault lies within the text, or at its end.
use Rattle.std.proofs.Common.{◌≡◌, ℕ, ◌≤◌, Bool, true, false, List, [], ◌∷◌, ◌++◌, length, Some, Result, Ok, Err, refl, sym, ap, subst, ◌∙◌, arith}
use Rattle.std.proofs.Common.{length-append}
use Rattle.std.specs.Prelude.{flat_map}
use Rattle.std.specs.List.{AllByRecursion}
use Rattle.std.proofs.lemmas.Bool.{cond-true, cond-false}
use Rattle.iges_fields.specs.declared.fault.FieldFault.{FieldFault}
use Rattle.iges_fields.specs.declared.fault.ValuesFault.{ValuesFault}
use Rattle.iges_fields.specs.declared.fault.ValuesFault.TheVariants as faults
use Rattle.iges_fields.specs.Delims.{Delims}
use Rattle.iges_base.specs.First.{first_failing}
use Rattle.iges_fields.specs.FreeText.{begins_text, text_size, behind_H, text_tests, word_tests, item_fault, IsFieldFault}
use Rattle.iges_fields.specs.Gives.{IfField}
use Rattle.iges_base.specs.Word.{after_spaces}

-- the places of these tests' faults
abbrev Within : ℕ → List (Bool × FieldFault) → Type 0
Within n tests = AllByRecursion (λ (t : Bool × FieldFault). t.1.at ≤ n) tests

first_within : (n : ℕ) (tests : List (Bool × FieldFault)) (f : FieldFault) → Within n tests → first_failing tests ≡ Some f → f.at ≤ n
first_within n [] f h e = absurd cc
first_within n (t ∷ tests) f h e = by_test t.0 refl (first_within n tests f h.1)
  where
    by_test : (b : Bool) → t.0 ≡ b → (first_failing tests ≡ Some f → f.at ≤ n) → f.at ≤ n
    by_test true is more = more (sym (cond-true t.0 (first_failing tests) (Some t.1) is) ∙ e)
    by_test false is more =
        let same : Some t.1 ≡ Some f = sym (cond-false t.0 (first_failing tests) (Some t.1) is) ∙ e in
        let this : t.1 ≡ f = cc in
        subst (λ (g : FieldFault). g.at ≤ n) this h.0

item_within : (d : Delims) (text : List ℕ) (f : FieldFault) → item_fault d text ≡ Some f → f.at ≤ length text
item_within d text f e = by_test (begins_text (after_spaces text)) refl
  where
    by_test : (b : Bool) → begins_text (after_spaces text) ≡ b → f.at ≤ length text
    by_test true is =
        let tests = text_tests d text (text_size (after_spaces text)) (behind_H (after_spaces text)) in
        first_within (length text) tests f (omega arith, (omega arith, (omega arith, tt)))
        (sym (ap first_failing (cond-true (begins_text (after_spaces text)) tests (word_tests d text (after_spaces text)) is)) ∙ e)
    by_test false is =
        let tests = word_tests d text (after_spaces text) in
        first_within (length text) tests f (omega arith, (omega arith, (omega arith, tt)))
        (sym (ap first_failing (cond-false (begins_text (after_spaces text))
        (text_tests d text (text_size (after_spaces text)) (behind_H (after_spaces text))) tests is)) ∙ e)

fault_within : (d : Delims) (text : List ℕ) (f : FieldFault) → IsFieldFault d text f → f.at ≤ length text
fault_within d text f h =
    let long : length text ≡ length (flat_map (λ item. item ++ d.param ∷ []) h.items ++ h.rest) = ap length h.parts in
    omega (arith, h.at, long, item_within d h.rest _ h.first, length-append (flat_map (λ item. item ++ d.param ∷ []) h.items) h.rest)

-- so does that of a call's
pub places_within : {X : Type 0} (d : Delims) (text : List ℕ) (result : Result X ValuesFault) → IfField result (IsFieldFault d text) →
    IfField result (λ fault. fault.at ≤ length text)
places_within d text (Ok x) h = tt
places_within d text (Err (faults.Field fault)) h = fault_within d text fault h
places_within d text (Err faults.NoMemory) h = tt
