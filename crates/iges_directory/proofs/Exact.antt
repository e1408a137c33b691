-- The directory is read as it is defined, and so is its first fault.
use Rattle.std.proofs.Common.{◌≡◌, inl, inr, ℕ, zero, suc, ◌+◌, ◌<◌, ◌≤◌, true, false, List, [], ◌∷◌, length, ℤ, pos, Option, Some, None, Ok, Err, refl, sym}
use Rattle.std.proofs.Common.{ap, subst, ◌∙◌, arith}
use Rattle.std.specs.Prelude.{is_some, unwrap_or, IsTrue}
use Rattle.std.specs.Char.{is_ascii_digit}
use Rattle.std.specs.List.{list_all}
use Rattle.std.specs.Cmp.{signed_Decides}
use Rattle.std.proofs.lemmas.Bool.{and_parts, and_from, cases_lt}
use Rattle.iges_base.specs.Word.{column_number}
use Rattle.iges_base.specs.First.{first_failing}
use Rattle.iges_base.proofs.Answers.{ok_is, err_is, clash}
use Rattle.iges_base.proofs.Tests.{passes, passed}
use Rattle.iges_lines.specs.declared.reason.Reason.{Reason}
use Rattle.iges_lines.specs.declared.fault.LineFault.{LineFault}
use Rattle.iges_lines.specs.Lines.{SectionLines}
use Rattle.iges_lines.specs.Reading.{first_from}
use Rattle.iges_lines.proofs.First.{first_from-none, first_from-some, first_from-faultless, first_from-at}
use Rattle.iges_directory.specs.declared.entry.Placed.{Placed}
use Rattle.iges_directory.specs.Entries.{field, status_of, Holds, IsEntry, has_record, AreEntries}
use Rattle.iges_directory.specs.DirectoryFaults.{number_in, are_numbers, first_tests, second_tests, directory_fault, IsDirectoryFault}
use Rattle.iges_directory.specs.Reading.{entry_of, entries_of, entries_unless, read_directory}

abbrev Lines : Type 0
Lines = List (List ℕ)

-- ---- a field

holds_some : (k : ℕ) (line : List ℕ) → is_some (column_number (field k line)) ≡ true → Holds k line (number_in k line)
holds_some k line e = by_option (column_number (field k line)) e
  where
    by_option : (o : Option ℤ) → is_some o ≡ true → o ≡ Some (unwrap_or o (pos 0))
    by_option None e = absurd cc
    by_option (Some z) e = refl

pub number_held : (k : ℕ) (line : List ℕ) (z : ℤ) → Holds k line z → number_in k line ≡ z
number_held k line z h = ap (λ (o : Option ℤ). unwrap_or o (pos 0)) h

pub some_held : (k : ℕ) (line : List ℕ) (z : ℤ) → Holds k line z → is_some (column_number (field k line)) ≡ true
some_held k line z h = ap (λ (o : Option ℤ). is_some o) h

-- ---- an entry by its numbers

placed_of : ℤ → ℤ → ℤ → ℤ → ℤ → ℤ → ℤ → ℤ → ℤ → ℤ → ℤ → List ℕ → List ℕ → ℤ → ℤ → Placed
placed_of kind structure font level view matrix display weight colour form subscript status label first count = record {
  entry = record {
    kind = kind;
    structure = structure;
    font = font;
    level = level;
    view = view;
    matrix = matrix;
    display = display;
    weight = weight;
    colour =
        colour;
    form = form;
    subscript = subscript;
    status = status;
    label = label;
  };
  first = first;
  count = count;
}

same_placed : {a b c d e f g h i j k a' b' c' d' e' f' g' h' i' j' k' m n m' n' : ℤ} {s l s' l' : List ℕ}
    → a ≡ a' → b ≡ b' → c ≡ c' → d ≡ d' → e ≡ e' → f ≡ f' → g ≡ g' → h ≡ h' → i ≡ i' → j ≡ j' → k ≡ k' → s ≡ s' → l ≡ l' → m ≡ m' → n ≡ n'
    → placed_of a b c d e f g h i j k s l m n ≡ placed_of a' b' c' d' e' f' g' h' i' j' k' s' l' m' n'
same_placed p1 p2 p3 p4 p5 p6 p7 p8 p9 p10 p11 p12 p13 p14 p15 = cc

pub entry-IsEntry : (first second : List ℕ) (p : Placed) → IsEntry first second p → entry_of first second ≡ p
unfolding placed_of
entry-IsEntry first second p h = same_placed
    (number_held 1 first _ h.kind) (number_held 3 first _ h.structure) (number_held 4 first _ h.font) (number_held 5 first _ h.level)
    (number_held 6 first _ h.view) (number_held 7 first _ h.matrix) (number_held 8 first _ h.display)
    (number_held 2 second _ h.weight) (number_held 3 second _ h.colour) (number_held 5 second _ h.form) (number_held 9 second _ h.subscript) (sym h.status)
    (sym h.label) (number_held 2 first _ h.record_first) (number_held 4 second _ h.record_count)

-- ---- two lines

module _ (n : ℕ) (first second : List ℕ) where
  two_entry : first_failing (first_tests false first) ≡ None → first_failing (second_tests n first second) ≡ None
      → IsEntry first second (entry_of first second) × IsTrue (has_record n (number_in 1 first) (number_in 2 first) (number_in 4 second))
  two_entry e f =
      let t = passes (first_tests false first) e in
      let u = passes (second_tests n first second) f in
      let a = and_parts (are_numbers (1 ∷ 2 ∷ 3 ∷ 4 ∷ 5 ∷ 6 ∷ 7 ∷ 8 ∷ []) first) (list_all is_ascii_digit (status_of (field 9 first))) t.1.0 in
      let some = λ (k : ℕ) (line : List ℕ). is_some (column_number (field k line)) in
      let n1 = and_parts (some 1 first) (are_numbers (2 ∷ 3 ∷ 4 ∷ 5 ∷ 6 ∷ 7 ∷ 8 ∷ []) first) a.0 in
      let n2 = and_parts (some 2 first) (are_numbers (3 ∷ 4 ∷ 5 ∷ 6 ∷ 7 ∷ 8 ∷ []) first) n1.1 in
      let n3 = and_parts (some 3 first) (are_numbers (4 ∷ 5 ∷ 6 ∷ 7 ∷ 8 ∷ []) first) n2.1 in
      let n4 = and_parts (some 4 first) (are_numbers (5 ∷ 6 ∷ 7 ∷ 8 ∷ []) first) n3.1 in
      let n5 = and_parts (some 5 first) (are_numbers (6 ∷ 7 ∷ 8 ∷ []) first) n4.1 in
      let n6 = and_parts (some 6 first) (are_numbers (7 ∷ 8 ∷ []) first) n5.1 in
      let n7 = and_parts (some 7 first) (are_numbers (8 ∷ []) first) n6.1 in
      let n8 = and_parts (some 8 first) true n7.1 in
      let m1 = and_parts (some 1 second) (are_numbers (2 ∷ 3 ∷ 4 ∷ 5 ∷ 9 ∷ []) second) u.0 in
      let m2 = and_parts (some 2 second) (are_numbers (3 ∷ 4 ∷ 5 ∷ 9 ∷ []) second) m1.1 in
      let m3 = and_parts (some 3 second) (are_numbers (4 ∷ 5 ∷ 9 ∷ []) second) m2.1 in
      let m4 = and_parts (some 4 second) (are_numbers (5 ∷ 9 ∷ []) second) m3.1 in
      let m5 = and_parts (some 5 second) (are_numbers (9 ∷ []) second) m4.1 in
      let m9 = and_parts (some 9 second) true m5.1 in
      let same : number_in 1 first ≡ number_in 1 second = (signed_Decides (number_in 1 first) (number_in 1 second)).0 u.1.0 in (
        record {
          kind = holds_some 1 first n1.0;
          record_first = holds_some 2 first n2.0;
          structure = holds_some 3 first n3.0;
          font = holds_some 4 first n4.0;
          level = holds_some 5 first n5.0;
          view = holds_some 6 first n6.0;
          matrix = holds_some 7 first n7.0;
          display = holds_some 8 first n8.0;
          status = refl;
          status_digits = a.1;
          kind_again = holds_some 1 second m1.0 ∙ ap (λ (z : ℤ). Some z) (sym same);
          weight = holds_some 2 second m2.0;
          colour = holds_some 3 second m3.0;
          record_count = holds_some 4 second m4.0;
          form = holds_some 5 second m5.0;
          label = refl;
          subscript = holds_some 9 second m9.0;
        },
        u.1.1.0,
      )

  pub entry_two : (p : Placed) → IsEntry first second p → IsTrue (has_record n p.entry.kind p.first p.count)
      → (first_failing (first_tests false first) ≡ None) × (first_failing (second_tests n first second) ≡ None)
  entry_two p h range =
      let f = λ (k : ℕ) (z : ℤ) (e : Holds k first z). some_held k first z e in
      let g = λ (k : ℕ) (z : ℤ) (e : Holds k second z). some_held k second z e in (
        passed (first_tests false first) (
          refl,
          (
            and_from _ _
                (and_from _ _ (f 1 _ h.kind) (and_from _ _ (f 2 _ h.record_first)
                (and_from _ _ (f 3 _ h.structure) (and_from _ _ (f 4 _ h.font)
                (and_from _ _ (f 5 _ h.level) (and_from _ _ (f 6 _ h.view) (and_from _ _ (f 7 _ h.matrix) (and_from _ _ (f 8 _ h.display) refl))))))))
                (ap (list_all is_ascii_digit) (sym h.status) ∙ h.status_digits),
            tt,
          ),
        ),
        passed (second_tests n first second) (
          and_from _ _ (g 1 _ h.kind_again) (and_from _ _ (g 2 _ h.weight)
              (and_from _ _ (g 3 _ h.colour) (and_from _ _ (g 4 _ h.record_count) (and_from _ _ (g 5 _ h.form) (and_from _ _ (g 9 _ h.subscript) refl))))),
          (
            (signed_Decides (number_in 1 first) (number_in 1 second)).1 (number_held 1 first _ h.kind ∙ sym (number_held 1 second _ h.kind_again)),
            (
              ap (λ (z : ℤ). has_record n z (number_in 2 first) (number_in 4 second)) (number_held 1 first _ h.kind)
                  ∙ ap (λ (z : ℤ). has_record n p.entry.kind z (number_in 4 second)) (number_held 2 first _ h.record_first)
                  ∙ ap (λ (z : ℤ). has_record n p.entry.kind p.first z) (number_held 4 second _ h.record_count) ∙ range,
              tt,
            ),
          ),
        ),
      )

-- ---- all lines

entries_sound : (n : ℕ) (ds : Lines) → ((j : ℕ) → j < length ds → directory_fault n ds j ≡ None) → AreEntries n ds (entries_of ds)
entries_sound n [] h = tt
entries_sound n (first ∷ []) h = let t = passes (first_tests true first) (h 0 (omega arith)) in absurd (absurd_not t.0)
  where
    absurd_not : false ≡ true → ⊥
    absurd_not e = absurd cc
entries_sound n (first ∷ second ∷ ds) h =
    let two = two_entry n first second (h 0 (omega arith)) (h 1 (omega arith)) in
    (two.0, two.1, entries_sound n ds (λ j lt. h (suc (suc j)) (omega arith)))

entries_complete : (n : ℕ) (ds : Lines) (ps : List Placed) → AreEntries n ds ps → (entries_of ds ≡ ps) × ((j : ℕ) → directory_fault n ds j ≡ None)
entries_complete n [] [] h = (refl, λ j. refl)
entries_complete n [] (p ∷ ps) h = absurd h
entries_complete n (first ∷ []) ps h = absurd h
entries_complete n (first ∷ second ∷ ds) [] h = absurd h
entries_complete n (first ∷ second ∷ ds) (p ∷ ps) h =
    let more = entries_complete n ds ps h.2 in
    let two = entry_two n first second p h.0 h.1 in
    (ap (λ (e : Placed). e ∷ entries_of ds) (entry-IsEntry first second p h.0) ∙ ap (λ (es : List Placed). p ∷ es) more.0, by_place two.0 two.1 more.1)
  where
    by_place : first_failing (first_tests false first) ≡ None → first_failing (second_tests n first second) ≡ None → ((j : ℕ) → directory_fault n ds j ≡ None) →
        (j : ℕ) → directory_fault n (first ∷ second ∷ ds) j ≡ None
    by_place e f g zero = e
    by_place e f g (suc zero) = f
    by_place e f g (suc (suc j)) = g j

past_end : (n : ℕ) (ds : Lines) (j : ℕ) → length ds ≤ j → directory_fault n ds j ≡ None
past_end n [] j h = refl
past_end n (first ∷ []) zero h = absurd (omega arith)
past_end n (first ∷ []) (suc j) h = refl
past_end n (first ∷ second ∷ ds) zero h = absurd (omega arith)
past_end n (first ∷ second ∷ ds) (suc zero) h = absurd (omega arith)
past_end n (first ∷ second ∷ ds) (suc (suc j)) h = past_end n ds j (omega arith)

-- ---- the two laws

module _ (s : SectionLines) where
  abbrev fault : ℕ → Option Reason
  fault = directory_fault (length s.param) s.directory

  by_found_ok : (o : Option (ℕ × Reason)) → first_from fault (length s.directory) 0 ≡ o → (ps : List Placed) → entries_unless s o ≡ Ok ps →
      AreEntries (length s.param) s.directory ps
  by_found_ok None e ps h =
      subst (λ (es : List Placed). AreEntries (length s.param) s.directory es) (ok_is (entries_of s.directory) ps h)
      (entries_sound (length s.param) s.directory (λ j lt. first_from-none fault (length s.directory) 0 e j (omega arith) (omega arith)))
  by_found_ok (Some x) e ps h = absurd (clash (record { line = length s.start + length s.global + x.0 + 1; reason = x.1 }) ps h)

  pub read_directory-AreEntries : (ps : List Placed) → read_directory s ≡ Ok ps → AreEntries (length s.param) s.directory ps
  unfolding read_directory
  read_directory-AreEntries ps e = by_found_ok (first_from fault (length s.directory) 0) refl ps e

  pub AreEntries-read_directory : (ps : List Placed) → AreEntries (length s.param) s.directory ps → read_directory s ≡ Ok ps
  unfolding read_directory
  AreEntries-read_directory ps h =
      let c = entries_complete (length s.param) s.directory ps h in
      ap (entries_unless s) (first_from-faultless fault (length s.directory) 0 (λ j low high. c.1 j)) ∙ ap (λ (es : List Placed). Ok es) c.0

  by_found_err : (o : Option (ℕ × Reason)) → first_from fault (length s.directory) 0 ≡ o → (f : LineFault) → entries_unless s o ≡ Err f → IsDirectoryFault s f
  by_found_err None e f h = absurd (clash f (entries_of s.directory) (sym h))
  by_found_err (Some x) e f h =
      let t = first_from-some fault (length s.directory) 0 x e in
      subst (IsDirectoryFault s) (err_is (record { line = length s.start + length s.global + x.0 + 1; reason = x.1 }) f h)
      (x.0, refl, record { here = t.1; before = λ i lt. t.2 i (omega arith) lt })

  pub read_directory-IsDirectoryFault : (f : LineFault) → read_directory s ≡ Err f → IsDirectoryFault s f
  unfolding read_directory
  read_directory-IsDirectoryFault f e = by_found_err (first_from fault (length s.directory) 0) refl f e

  pub IsDirectoryFault-read_directory : (f : LineFault) → IsDirectoryFault s f → read_directory s ≡ Err f
  unfolding read_directory
  IsDirectoryFault-read_directory f h =
      let first = h.2 in
      let within : h.0 < length s.directory = elim (cases_lt h.0 (length s.directory)) [
        | inl lt ↦ lt
        | inr le ↦ let no : Some f.reason ≡ None = sym first.here ∙ past_end (length s.param) s.directory h.0 le in absurd cc
      ] in
      ap (entries_unless s) (first_from-at fault (length s.directory) 0 h.0 f.reason (omega arith) (omega arith) first.here (λ j low lt. first.before j lt))
      ∙ ap (λ (n : ℕ). Err (record { line = n; reason = f.reason })) (sym h.1)
