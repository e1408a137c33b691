-- The entry of two lines, from what each of them holds.
use Rattle.std.proofs.Common.{◌≡◌, ℕ, Bool, true, false, List, [], ◌∷◌, ℤ, Some, None, Ok, Err, refl, sym, ap, ◌∙◌}
use Rattle.std.specs.Prelude.{is_some, IsFalse, Option}
use Rattle.std.specs.Char.{is_ascii_digit}
use Rattle.std.specs.List.{list_all}
use Rattle.std.specs.Ordering.{int_eq}
use Rattle.std.specs.Cmp.{signed_Decides}
use mir.Val.{SFits, of_z, to_z}
use mir.Syntax.{w64}
use Rattle.std.proofs.lemmas.Bool.{and_from}
use Rattle.std.proofs.lemmas.Int.{to_z-of_z}
use Rattle.iges_base.specs.Word.{column_number}
use Rattle.iges_base.specs.First.{first_failing}
use Rattle.iges_lines.specs.declared.reason.Reason.{Reason}
use Rattle.iges_lines.specs.declared.reason.Reason.TheVariants as reason
use Rattle.iges_directory.specs.declared.half.FirstHalf.{FirstHalf}
use Rattle.iges_directory.specs.declared.half.SecondHalf.{SecondHalf}
use Rattle.iges_directory.specs.declared.pair.PairFault.TheVariants.{First, Second}
use Rattle.iges_directory.specs.Entries.{field, Holds, has_record}
use Rattle.iges_directory.specs.DirectoryFaults.{number_in, first_fields, second_fields, first_tests}
use Rattle.iges_directory.specs.Halves.{IsFirstHalf, IsSecondHalf, placed_from, AnswersPair}
use Rattle.iges_directory.proofs.Exact.{number_held, some_held}

two : Bool → Bool → Option Reason
two a b = first_failing ((a, reason.Unpaired) ∷ (b, reason.Field) ∷ [])

two_fails : (b : Bool) → b ≡ false → two true b ≡ Some reason.Field
unfolding two
two_fails b e = ap (λ (t : Bool). two true t) e

two_pass : (b : Bool) → b ≡ true → two true b ≡ None
unfolding two
two_pass b e = ap (λ (t : Bool). two true t) e

three : Bool → Bool → Bool → Option Reason
three a b c = first_failing ((a, reason.Field) ∷ (b, reason.TypesDiffer) ∷ (c, reason.Range) ∷ [])

three_1 : (a b c : Bool) → a ≡ false → three a b c ≡ Some reason.Field
unfolding three
three_1 a b c e = ap (λ (t : Bool). three t b c) e

three_2 : (a b c : Bool) → a ≡ true → b ≡ false → three a b c ≡ Some reason.TypesDiffer
unfolding three
three_2 a b c e f = ap (λ (t : Bool). three t b c) e ∙ ap (λ (t : Bool). three true t c) f

three_3 : (a b c : Bool) → a ≡ true → b ≡ true → c ≡ false → three a b c ≡ Some reason.Range
unfolding three
three_3 a b c e f g = ap (λ (t : Bool). three t b c) e ∙ ap (λ (t : Bool). three true t c) f ∙ ap (λ (t : Bool). three true true t) g

-- the program's answer on three numbers that it has read
pub lies_read : (n : ℕ) (kind first count : ℤ) (r v : Bool) → SFits w64 kind → SFits w64 first → SFits w64 count
    → r ≡ has_record n (to_z w64 (of_z w64 kind)) (to_z w64 (of_z w64 first)) (to_z w64 (of_z w64 count)) → r ≡ v → has_record n kind first count ≡ v
lies_read n kind first count r v a b c is e =
    ap (λ (z : ℤ). has_record n z first count) (sym (to_z-of_z w64 kind a)) ∙ ap (λ (z : ℤ). has_record n (to_z w64 (of_z w64 kind)) z count)
    (sym (to_z-of_z w64 first b))
    ∙ ap (λ (z : ℤ). has_record n (to_z w64 (of_z w64 kind)) (to_z w64 (of_z w64 first)) z) (sym (to_z-of_z w64 count c)) ∙ sym is ∙ e

-- the first line fails
pub first_fails : (n : ℕ) (first second : List ℕ) → IsFalse (first_fields first) → AnswersPair n first second (Err (First reason.Field))
unfolding two
first_fails n first second e = two_fails (first_fields first) e

module _ (n : ℕ) (first second : List ℕ) (one : FirstHalf) (h : IsFirstHalf first one) where
  f : (k : ℕ) (z : ℤ) → Holds k first z → is_some (column_number (field k first)) ≡ true
  f k z e = some_held k first z e

  passes_first : first_failing (first_tests false first) ≡ None
  unfolding two
  passes_first = two_pass (first_fields first) (
      and_from _ _
      (and_from _ _ (f 1 _ h.kind) (and_from _ _ (f 2 _ h.record_first)
      (and_from _ _ (f 3 _ h.structure) (and_from _ _ (f 4 _ h.font)
      (and_from _ _ (f 5 _ h.level) (and_from _ _ (f 6 _ h.view) (and_from _ _ (f 7 _ h.matrix) (and_from _ _ (f 8 _ h.display) refl))))))))
      (ap (list_all is_ascii_digit) (sym h.status) ∙ h.status_digits)
      )

  -- the fields of the second line fail
  pub second_fails : IsFalse (second_fields second) → AnswersPair n first second (Err (Second reason.Field))
  unfolding three
  second_fails e = (
    passes_first,
    three_1 (second_fields second) (int_eq (number_in 1 first) (number_in 1 second))
        (has_record n (number_in 1 first) (number_in 2 first) (number_in 4 second)) e,
  )

  module _ (other : SecondHalf) (k : IsSecondHalf second other) where
    g : (i : ℕ) (z : ℤ) → Holds i second z → is_some (column_number (field i second)) ≡ true
    g i z e = some_held i second z e

    fields_pass : second_fields second ≡ true
    fields_pass = and_from _ _ (g 1 _ k.kind) (and_from _ _ (g 2 _ k.weight)
        (and_from _ _ (g 3 _ k.colour) (and_from _ _ (g 4 _ k.record_count) (and_from _ _ (g 5 _ k.form) (and_from _ _ (g 9 _ k.subscript) refl)))))

    same_record : has_record n (number_in 1 first) (number_in 2 first) (number_in 4 second) ≡ has_record n one.kind one.record_first other.record_count
    same_record =
        ap (λ (z : ℤ). has_record n z (number_in 2 first) (number_in 4 second)) (number_held 1 first _ h.kind)
        ∙ ap (λ (z : ℤ). has_record n one.kind z (number_in 4 second)) (number_held 2 first _ h.record_first)
        ∙ ap (λ (z : ℤ). has_record n one.kind one.record_first z) (number_held 4 second _ k.record_count)

    same_kinds : int_eq (number_in 1 first) (number_in 1 second) ≡ int_eq one.kind other.kind
    same_kinds = ap (λ (z : ℤ). int_eq z (number_in 1 second)) (number_held 1 first _ h.kind) ∙ ap (λ (z : ℤ). int_eq one.kind z)
        (number_held 1 second _ k.kind)

    pub types_differ : int_eq one.kind other.kind ≡ false → AnswersPair n first second (Err (Second reason.TypesDiffer))
    unfolding three
    types_differ e = (
      passes_first,
      three_2 (second_fields second) (int_eq (number_in 1 first) (number_in 1 second))
          (has_record n (number_in 1 first) (number_in 2 first) (number_in 4 second)) fields_pass (same_kinds ∙ e),
    )

    pub out_of_range : int_eq one.kind other.kind ≡ true → has_record n one.kind one.record_first other.record_count ≡ false →
        AnswersPair n first second (Err (Second reason.Range))
    unfolding three
    out_of_range e r = (
      passes_first,
      three_3 (second_fields second) (int_eq (number_in 1 first) (number_in 1 second))
          (has_record n (number_in 1 first) (number_in 2 first) (number_in 4 second)) fields_pass (same_kinds ∙ e) (same_record ∙ r),
    )

    pub in_range : int_eq one.kind other.kind ≡ true → has_record n one.kind one.record_first other.record_count ≡ true →
        AnswersPair n first second (Ok (placed_from one other))
    in_range e r =
        let same : one.kind ≡ other.kind = (signed_Decides one.kind other.kind).0 e in (
          record {
            kind = h.kind;
            record_first = h.record_first;
            structure = h.structure;
            font = h.font;
            level = h.level;
            view = h.view;
            matrix = h.matrix;
            display = h.display;
            status = h.status;
            status_digits = h.status_digits;
            kind_again = k.kind ∙ ap (λ (z : ℤ). Some z) (sym same);
            weight = k.weight;
            colour = k.colour;
            record_count = k.record_count;
            form = k.form;
            label = k.label;
            subscript = k.subscript;
          },
          r,
        )
