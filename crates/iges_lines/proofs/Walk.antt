-- Lines without a fault are sectioned, and sectioned lines have none.
use Rattle.std.proofs.Common.{◌≡◌, ◌⊎◌, inl, inr, ℕ, zero, suc, ◌+◌, ◌<◌, ◌≤◌, Bool, true, false, cond, not, ◌&&◌, ◌||◌, List, [], ◌∷◌, ◌++◌, length, drop, ℤ}
use Rattle.std.proofs.Common.{pos, Option, Some, None, refl, sym, ap, subst, ◌∙◌, append_assoc, arith, length-append}
use Rattle.std.specs.Prelude.{◌==◌, nat_lt, slice_get, slice_index}
use Rattle.std.specs.List.{AllByRecursion, enumerate_from, list_all}
use Rattle.std.specs.Option.{option_map_or}
use Rattle.std.specs.Ordering.{int_eq}
use Rattle.std.specs.Cmp.{signed_Decides}
use Rattle.std.proofs.lemmas.Bool.{and_parts, and_from, and_left, and_right, both_ways, or_cases, or_left, or_right, cond-true, cond-false, cases_order}
use Rattle.std.proofs.lemmas.Bool.{eqb-true, eq-eqb, ne_eqb, not-true, not_from_false, ltb-true}
use Rattle.std.proofs.lemmas.Bool.Decides.{eqb_tells}
use Rattle.std.proofs.lemmas.List.{append-nil, take_at, take_all}
use Rattle.std.proofs.lemmas.List.Elements.{filter-append}
use Rattle.std.proofs.lemmas.List.Folds.{list_any-append}
use Rattle.std.proofs.lemmas.Option.{slice_get_past}
use Rattle.iges_base.specs.Word.{is_empty, column_number}
use Rattle.iges_base.specs.First.{first_failing}
use Rattle.iges_base.proofs.Tests.{passes, passed}
use Rattle.iges_base.proofs.Lists.{prefix_len-pass}
use Rattle.iges_lines.specs.declared.reason.Reason.TheVariants.{Missing, After}
use Rattle.iges_lines.specs.Lines.{SectionLines, sections, joined, columns, letter, has_number}
use Rattle.iges_lines.specs.Sectioned.{IsNumbered, AreNumbered, IsCount, IsTerminate, is_blank, AreSectioned}
use Rattle.iges_lines.specs.LineFaults.{section_place, of_letter, sections_of, has_count, tests_at, line_tests, is_terminated, fault_behind, line_fault}

abbrev Lines : Type 0
Lines = List (List ℕ)

-- ---- numbers

has_number-is : (field : List ℕ) (n : ℕ) → has_number field n ≡ true → column_number field ≡ Some (pos n)
has_number-is field n e = by_option (column_number field) e
  where
    by_option : (o : Option ℤ) → option_map_or (λ z. int_eq z (pos n)) o false ≡ true → o ≡ Some (pos n)
    by_option None e = absurd cc
    by_option (Some z) e = ap Some ((signed_Decides z (pos n)).0 e)

pub is-has_number : (field : List ℕ) (n : ℕ) → column_number field ≡ Some (pos n) → has_number field n ≡ true
is-has_number field n e = ap (λ (o : Option ℤ). option_map_or (λ z. int_eq z (pos n)) o false) e ∙ (signed_Decides (pos n) (pos n)).1 refl

-- ---- letters

abbrev Numbered : ℕ → ℕ → Lines → Type 0
Numbered section k ls = AllByRecursion (λ (l : ℕ × List ℕ). IsNumbered section l.0 l.1) (enumerate_from k ls)

of_same : (x k : ℕ) (ls : Lines) → Numbered x k ls → of_letter x ls ≡ ls
of_same x k [] h = refl
of_same x k (l ∷ ls) h = cond-true (letter l == x) _ _ (eq-eqb _ _ h.0.letter_is) ∙ ap (λ (t : Lines). l ∷ t) (of_same x (k + 1) ls h.1)

of_other : (x y k : ℕ) (ls : Lines) → (x == y) ≡ false → Numbered x k ls → of_letter y ls ≡ []
of_other x y k [] ne h = refl
of_other x y k (l ∷ ls) ne h = cond-false (letter l == y) _ _ (ap (λ (b : ℕ). b == y) h.0.letter_is ∙ ne) ∙ of_other x y (k + 1) ls ne h.1

push : (x k n : ℕ) (ls : Lines) (l : List ℕ) → Numbered x k ls → n ≡ k + length ls → IsNumbered x n l → Numbered x k (ls ++ l ∷ [])
push x k n [] l h is new = (subst (λ (m : ℕ). IsNumbered x m l) (is ∙ omega arith) new, tt)
push x k n (a ∷ ls) l h is new = (h.0, push x (k + 1) n ls l h.1 (omega (arith, is)) new)

abbrev pub record_of : Lines → Lines → Lines → Lines → SectionLines
record_of a b c d = record { start = a; global = b; directory = c; param = d }

pub all_four : {a b c d a' b' c' d' : Lines} → a ≡ a' → b ≡ b' → c ≡ c' → d ≡ d' → record_of a b c d ≡ record_of a' b' c' d'
all_four {a} {b} {c} {d} {a'} {b'} {c'} {d'} p q r t = ap (λ (x : Lines). record_of x b c d) p ∙ ap (λ (x : Lines). record_of a' x c d) q ∙ ap
    (λ (x : Lines). record_of a' b' x d) r ∙ ap (λ (x : Lines). record_of a' b' c' x) t

-- four numbered sections
record Sections (s : SectionLines) : Type 0 where
  start : AreNumbered 83 s.start
  global : AreNumbered 71 s.global
  directory : AreNumbered 68 s.directory
  param : AreNumbered 80 s.param

of_joined : (y : ℕ) (s : SectionLines) → of_letter y (joined s) ≡ of_letter y s.start ++ of_letter y s.global ++ of_letter y s.directory ++ of_letter y s.param
of_joined y s =
    filter-append (λ l. letter l == y) (s.start ++ s.global ++ s.directory) s.param
    ∙ ap (λ (t : Lines). t ++ of_letter y s.param) (filter-append (λ l. letter l == y) (s.start ++ s.global) s.directory
    ∙ ap (λ (t : Lines). t ++ of_letter y s.directory) (filter-append (λ l. letter l == y) s.start s.global))

four : (a b c d a' b' c' d' : Lines) → a ≡ a' → b ≡ b' → c ≡ c' → d ≡ d' → (a ++ b ++ c ++ d) ≡ (a' ++ b' ++ c' ++ d')
four a b c d a' b' c' d' p q r t = ap (λ (x : Lines). x ++ b ++ c ++ d) p ∙ ap (λ (x : Lines). a' ++ x ++ c ++ d) q ∙ ap
    (λ (x : Lines). a' ++ b' ++ x ++ d) r ∙ ap (λ (x : Lines). a' ++ b' ++ c' ++ x) t

sections_of-joined : (s : SectionLines) → Sections s → sections_of (joined s) ≡ s
sections_of-joined s h =
    let a : of_letter 83 (joined s) ≡ s.start = of_joined 83 s ∙ four _ _ _ _ s.start [] [] [] (of_same 83 1 s.start h.start)
    (of_other 71 83 1 s.global refl h.global) (of_other 68 83 1 s.directory refl h.directory) (of_other 80 83 1 s.param refl h.param)
    ∙ append-nil ((s.start ++ []) ++ []) ∙ append-nil (s.start ++ []) ∙ append-nil s.start in
    let b : of_letter 71 (joined s) ≡ s.global = of_joined 71 s ∙ four _ _ _ _ [] s.global [] [] (of_other 83 71 1 s.start refl h.start)
    (of_same 71 1 s.global h.global) (of_other 68 71 1 s.directory refl h.directory) (of_other 80 71 1 s.param refl h.param)
    ∙ append-nil (s.global ++ []) ∙ append-nil s.global in
    let c : of_letter 68 (joined s) ≡ s.directory = of_joined 68 s ∙ four _ _ _ _ [] [] s.directory [] (of_other 83 68 1 s.start refl h.start)
    (of_other 71 68 1 s.global refl h.global) (of_same 68 1 s.directory h.directory) (of_other 80 68 1 s.param refl h.param)
    ∙ append-nil s.directory in
    let d : of_letter 80 (joined s) ≡ s.param = of_joined 80 s ∙ four _ _ _ _ [] [] [] s.param (of_other 83 80 1 s.start refl h.start)
    (of_other 71 80 1 s.global refl h.global) (of_other 68 80 1 s.directory refl h.directory) (of_same 80 1 s.param h.param) in
    all_four a b c d

no_T : (x k : ℕ) (ls : Lines) → (x == 84) ≡ false → Numbered x k ls → is_terminated ls ≡ false
no_T x k [] ne h = refl
no_T x k (l ∷ ls) ne h = ap (λ (b : Bool). b || is_terminated ls) (ap (λ (b : ℕ). b == 84) h.0.letter_is ∙ ne) ∙ no_T x (k + 1) ls ne h.1

not_terminated : (s : SectionLines) → Sections s → is_terminated (joined s) ≡ false
not_terminated s h =
    list_any-append (λ l. letter l == 84) (s.start ++ s.global ++ s.directory) s.param ∙ or_false
    (list_any-append (λ l. letter l == 84) (s.start ++ s.global) s.directory ∙ or_false
    (list_any-append (λ l. letter l == 84) s.start s.global ∙ or_false (no_T 83 1 s.start refl h.start) (no_T 71 1 s.global refl h.global))
    (no_T 68 1 s.directory refl h.directory))
    (no_T 80 1 s.param refl h.param)
  where
    or_false : {a b : Bool} → a ≡ false → b ≡ false → (a || b) ≡ false
    or_false {a} {b} p q = ap (λ (x : Bool). x || b) p ∙ q

-- ---- places of letters

pub none_place : (b : ℕ) → (83 == b) ≡ false → (71 == b) ≡ false → (68 == b) ≡ false → (80 == b) ≡ false → (84 == b) ≡ false → section_place b ≡ 5
none_place b e f g h i =
    let p = λ (x : ℕ). not (x == b) in
    prefix_len-pass p 83 (71 ∷ 68 ∷ 80 ∷ 84 ∷ []) (not_from_false _ e) ∙ ap suc (prefix_len-pass p 71 (68 ∷ 80 ∷ 84 ∷ []) (not_from_false _ f)
    ∙ ap suc (prefix_len-pass p 68 (80 ∷ 84 ∷ []) (not_from_false _ g) ∙ ap suc
    (prefix_len-pass p 80 (84 ∷ []) (not_from_false _ h) ∙ ap suc (prefix_len-pass p 84 [] (not_from_false _ i)))))

data Letter (b : ℕ) : Type 0 where
  is_S : b ≡ 83 → Letter b
  is_G : b ≡ 71 → Letter b
  is_D : b ≡ 68 → Letter b
  is_P : b ≡ 80 → Letter b
  is_T : b ≡ 84 → Letter b

letter_of : (b : ℕ) → nat_lt (section_place b) 5 ≡ true → Letter b
letter_of b lt =
    elim (eqb_tells 83 b) [
      | inl e ↦ is_S (sym e.1)
      | inr e ↦
          elim (eqb_tells 71 b) [
            | inl f ↦ is_G (sym f.1)
            | inr f ↦
                elim (eqb_tells 68 b) [
                  | inl g ↦ is_D (sym g.1)
                  | inr g ↦
                      elim (eqb_tells 80 b) [
                        | inl h ↦ is_P (sym h.1)
                        | inr h ↦
                            elim (eqb_tells 84 b) [ inl i ↦ is_T (sym i.1) | inr i ↦ absurd (omega (arith, ltb-true _ _ lt, none_place b e.0 f.0 g.0 h.0 i.0)) ]
                      ]
                ]
          ]
    ]

-- ---- what the tests say of a line, by its letter

nil_from_empty : (ls : Lines) → is_empty ls ≡ true → ls ≡ []
nil_from_empty [] e = refl
nil_from_empty (l ∷ ls) e = absurd cc

some_from_not_empty : (ls : Lines) → not (is_empty ls) ≡ true → 0 < length ls
some_from_not_empty [] e = absurd cc
some_from_not_empty (l ∷ ls) e = omega arith

not_empty_from_some : (ls : Lines) → 0 < length ls → not (is_empty ls) ≡ true
not_empty_from_some [] h = absurd (omega arith)
not_empty_from_some (l ∷ ls) h = refl

numbered_by : (x n : ℕ) (l : List ℕ) → letter l ≡ x → (length l == 80) ≡ true → has_number (columns 74 80 l) n ≡ true → IsNumbered x n l
numbered_by x n l is long number = record { long = eqb-true _ _ long; letter_is = is; number_is = has_number-is (columns 74 80 l) n number }

count_is : (x : ℕ) (ls : Lines) (field : List ℕ) → has_count x ls field ≡ true → IsCount x (length ls) field
count_is x ls field e = let p = and_parts (slice_index field 0 == x)
    (has_number (drop 1 field) (length ls)) e in (eqb-true _ _ p.0, has_number-is (drop 1 field) (length ls) p.1)

is_count : (x : ℕ) (ls : Lines) (field : List ℕ) → IsCount x (length ls) field → has_count x ls field ≡ true
is_count x ls field h = and_from _ _ (eq-eqb _ _ h.0) (is-has_number (drop 1 field) (length ls) h.1)

module _ (s : SectionLines) (l : List ℕ) where
  pub says_S : letter l ≡ 83 → first_failing (tests_at s 0 l) ≡ None →
      IsNumbered 83 (length s.start + 1) l × (s.global ≡ []) × (s.directory ≡ []) × (s.param ≡ [])
  says_S is e =
      let t = passes (tests_at s 0 l) e in
      let later = and_parts (is_empty s.global) (is_empty s.directory && (is_empty s.param && true)) t.1.1.0 in
      let more = and_parts (is_empty s.directory) (is_empty s.param && true) later.1 in (
        numbered_by 83 (length s.start + 1) l is t.1.0 t.1.1.1.1.0,
        nil_from_empty _ later.0,
        nil_from_empty _ more.0,
        nil_from_empty _ (and_parts (is_empty s.param) true more.1).0,
      )

  pub says_G : letter l ≡ 71 → first_failing (tests_at s 1 l) ≡ None →
      IsNumbered 71 (length s.global + 1) l × (s.directory ≡ []) × (s.param ≡ []) × (list_all is_empty (sections s) ≡ false)
  says_G is e =
      let t = passes (tests_at s 1 l) e in
      let later = and_parts (is_empty s.directory) (is_empty s.param && true) t.1.1.0 in (
        numbered_by 71 (length s.global + 1) l is t.1.0 t.1.1.1.1.0,
        nil_from_empty _ later.0,
        nil_from_empty _ (and_parts (is_empty s.param) true later.1).0,
        first_not t.1.1.1.0,
      )
    where
      first_not : ((not (list_all is_empty (sections s)) || false) && true) ≡ true → list_all is_empty (sections s) ≡ false
      first_not h = elim (or_cases (not (list_all is_empty (sections s))) false (and_parts (not (list_all is_empty (sections s)) || false) true h).0)
          [ inl k ↦ not-true _ k | inr k ↦ absurd cc ]

  says_later : (place : ℕ) → ((not (list_all is_empty (sections s)) || false) && (false || not (is_empty s.global))) ≡ true →
      (list_all is_empty (sections s) ≡ false) × (0 < length s.global)
  says_later place h =
      let p = and_parts (not (list_all is_empty (sections s)) || false) (false || not (is_empty s.global)) h in
      (elim (or_cases (not (list_all is_empty (sections s))) false p.0) [ inl k ↦ not-true _ k | inr k ↦ absurd cc ], some_from_not_empty s.global p.1)

  pub says_D : letter l ≡ 68 → first_failing (tests_at s 2 l) ≡ None →
      IsNumbered 68 (length s.directory + 1) l × (s.param ≡ []) × (list_all is_empty (sections s) ≡ false) × (0 < length s.global)
  says_D is e =
      let t = passes (tests_at s 2 l) e in (
        numbered_by 68 (length s.directory + 1) l is t.1.0 t.1.1.1.1.0,
        nil_from_empty _ (and_parts (is_empty s.param) true t.1.1.0).0,
        (says_later 2 t.1.1.1.0).0,
        (says_later 2 t.1.1.1.0).1,
      )

  pub says_P : letter l ≡ 80 → first_failing (tests_at s 3 l) ≡ None →
      IsNumbered 80 (length s.param + 1) l × (list_all is_empty (sections s) ≡ false) × (0 < length s.global)
  says_P is e =
      let t = passes (tests_at s 3 l) e in
      (numbered_by 80 (length s.param + 1) l is t.1.0 t.1.1.1.1.0, (says_later 3 t.1.1.1.0).0, (says_later 3 t.1.1.1.0).1)

  says_T : letter l ≡ 84 → first_failing (tests_at s 4 l) ≡ None → IsTerminate s l × (list_all is_empty (sections s) ≡ false) × (0 < length s.global)
  says_T is e =
      let t = passes (tests_at s 4 l) e in
      let later = says_later 4 t.1.1.1.0 in
      let c = and_parts (has_count 83 s.start (columns 1 8 l) && has_count 71 s.global (columns 9 16 l) && has_count 68 s.directory (columns 17 24 l))
      (has_count 80 s.param (columns 25 32 l)) t.1.1.1.1.1.0 in
      let b = and_parts (has_count 83 s.start (columns 1 8 l) && has_count 71 s.global (columns 9 16 l)) (has_count 68 s.directory (columns 17 24 l)) c.0 in
      let a = and_parts (has_count 83 s.start (columns 1 8 l)) (has_count 71 s.global (columns 9 16 l)) b.0 in (
        record {
          numbered = numbered_by 84 1 l is t.1.0 t.1.1.1.1.0;
          start = count_is 83 s.start (columns 1 8 l) a.0;
          global = count_is 71 s.global (columns 9 16 l) a.1;
          directory = count_is 68 s.directory (columns 17 24 l) b.1;
          param = count_is 80 s.param (columns 25 32 l) c.1;
        },
        later.0,
        later.1,
      )

  -- and the other way
  not_first : 0 < length s.start → list_all is_empty (sections s) ≡ false
  not_first h = and_left (is_empty s.start) _ (not-true _ (not_empty_from_some s.start h))

  fixed : (x : ℕ) → letter l ≡ x → (x == 66 || x == 67) ≡ false → not (list_all is_empty (sections s) && (letter l == 66 || letter l == 67)) ≡ true
  fixed x is e = not_from_false _ (and_right (list_all is_empty (sections s)) _ (ap (λ (b : ℕ). b == 66 || b == 67) is ∙ e))

  later_some : list_all is_empty (sections s) ≡ false → 0 < length s.global →
      ((not (list_all is_empty (sections s)) || false) && (false || not (is_empty s.global))) ≡ true
  later_some h k = and_from _ _ (or_left (not (list_all is_empty (sections s))) false (not_from_false _ h)) (not_empty_from_some s.global k)

  pub pass_S : IsNumbered 83 (length s.start + 1) l → (s.global ≡ []) → (s.directory ≡ []) → (s.param ≡ []) → first_failing (line_tests s l) ≡ None
  pass_S h e f g =
      ap (λ (p : ℕ). first_failing (tests_at s p l)) (ap section_place h.letter_is)
      ∙ passed (tests_at s 0 l) (
        fixed 83 h.letter_is refl,
        (
          eq-eqb _ _ h.long,
          (
            and_from _ _ (ap is_empty e) (and_from _ _ (ap is_empty f) (and_from _ _ (ap is_empty g) refl)),
            (
              and_from _ _ (or_right (not (list_all is_empty (sections s))) true refl) refl,
              (is-has_number (columns 74 80 l) (length s.start + 1) h.number_is, (refl, tt)),
            ),
          ),
        ),
      )

  pub pass_G : IsNumbered 71 (length s.global + 1) l → (s.directory ≡ []) → (s.param ≡ []) → list_all is_empty (sections s) ≡ false →
      first_failing (line_tests s l) ≡ None
  pass_G h f g some =
      ap (λ (p : ℕ). first_failing (tests_at s p l)) (ap section_place h.letter_is)
      ∙ passed (tests_at s 1 l) (
        fixed 71 h.letter_is refl,
        (
          eq-eqb _ _ h.long,
          (
            and_from _ _ (ap is_empty f) (and_from _ _ (ap is_empty g) refl),
            (
              and_from _ _ (or_left (not (list_all is_empty (sections s))) false (not_from_false _ some)) refl,
              (is-has_number (columns 74 80 l) (length s.global + 1) h.number_is, (refl, tt)),
            ),
          ),
        ),
      )

  pub pass_D : IsNumbered 68 (length s.directory + 1) l → (s.param ≡ []) → list_all is_empty (sections s) ≡ false → 0 < length s.global →
      first_failing (line_tests s l) ≡ None
  pass_D h g some any =
      ap (λ (p : ℕ). first_failing (tests_at s p l)) (ap section_place h.letter_is)
      ∙ passed (tests_at s 2 l) (
        fixed 68 h.letter_is refl,
        (
          eq-eqb _ _ h.long,
          (
            and_from _ _ (ap is_empty g) refl,
            (later_some some any, (is-has_number (columns 74 80 l) (length s.directory + 1) h.number_is, (refl, tt))),
          ),
        ),
      )

  pub pass_P : IsNumbered 80 (length s.param + 1) l → list_all is_empty (sections s) ≡ false → 0 < length s.global → first_failing (line_tests s l) ≡ None
  pass_P h some any =
      ap (λ (p : ℕ). first_failing (tests_at s p l)) (ap section_place h.letter_is)
      ∙ passed (tests_at s 3 l) (
        fixed 80 h.letter_is refl,
        (
          eq-eqb _ _ h.long,
          (
            refl,
            (later_some some any, (is-has_number (columns 74 80 l) (length s.param + 1) h.number_is, (refl, tt))),
          ),
        ),
      )

  pass_T : IsTerminate s l → list_all is_empty (sections s) ≡ false → 0 < length s.global → first_failing (line_tests s l) ≡ None
  pass_T h some any =
      ap (λ (p : ℕ). first_failing (tests_at s p l)) (ap section_place h.numbered.letter_is)
      ∙ passed (tests_at s 4 l) (
        fixed 84 h.numbered.letter_is refl,
        (
          eq-eqb _ _ h.numbered.long,
          (
            refl,
            (
              later_some some any,
              (
                is-has_number (columns 74 80 l) 1 h.numbered.number_is,
                (
                  and_from _ _ (and_from _ _ (and_from _ _ (is_count 83 s.start (columns 1 8 l) h.start) (is_count 71 s.global (columns 9 16 l) h.global))
                      (is_count 68 s.directory (columns 17 24 l) h.directory)) (is_count 80 s.param (columns 25 32 l) h.param),
                  tt,
                ),
              ),
            ),
          ),
        ),
      )

-- ---- walking over the lines

-- no line of rest has a fault behind the lines before it, and the end has none
Faultless : Lines → Lines → Type 0
Faultless before [] = fault_behind before None ≡ None
Faultless before (l ∷ rest) = (fault_behind before (Some l) ≡ None) × Faultless (before ++ l ∷ []) rest

fault_line : (s : SectionLines) (l : List ℕ) → Sections s → fault_behind (joined s) (Some l) ≡ first_failing (line_tests s l)
fault_line s l h =
    ap (λ (b : Bool). first_failing (cond b ((is_blank l, After) ∷ []) (line_tests (sections_of (joined s)) l))) (not_terminated s h)
    ∙ ap (λ (t : SectionLines). first_failing (line_tests t l)) (sections_of-joined s h)

fault_end : (s : SectionLines) → Sections s → fault_behind (joined s) None ≡ Some Missing
fault_end s h = ap (λ (b : Bool). cond b None (Some Missing)) (not_terminated s h)

terminated_more : (before : Lines) (l : List ℕ) → is_terminated before ≡ true → is_terminated (before ++ l ∷ []) ≡ true
terminated_more before l e = list_any-append (λ x. letter x == 84) before (l ∷ []) ∙ or_left (is_terminated before) _ e

blank_behind : (before rest : Lines) → is_terminated before ≡ true → Faultless before rest → list_all is_blank rest ≡ true
unfolding Faultless
blank_behind before [] e h = refl
blank_behind before (l ∷ rest) e h =
    let first : first_failing ((is_blank l, After) ∷ []) ≡ None = sym (ap first_failing (cond-true (is_terminated before) _ _ e)) ∙ h.0 in
    and_from (is_blank l) (list_all is_blank rest) (passes ((is_blank l, After) ∷ []) first).0
    (blank_behind (before ++ l ∷ []) rest (terminated_more before l e) h.1)

behind_blank : (before rest : Lines) → is_terminated before ≡ true → list_all is_blank rest ≡ true → Faultless before rest
unfolding Faultless
behind_blank before [] e h = cond-true (is_terminated before) _ _ e
behind_blank before (l ∷ rest) e h =
    let p = and_parts (is_blank l) (list_all is_blank rest) h in (
      ap first_failing (cond-true (is_terminated before) _ _ e) ∙ passed ((is_blank l, After) ∷ []) (p.0, tt),
      behind_blank (before ++ l ∷ []) rest (terminated_more before l e) p.1,
    )

-- ---- a line put to its section

put_S : SectionLines → List ℕ → SectionLines
put_S s l = record s { start = s.start ++ l ∷ [] }

one : (a b c d : Lines) → b ≡ [] → c ≡ [] → d ≡ [] → (a ++ b ++ c ++ d) ≡ a
one a b c d e f g = four a b c d a [] [] [] refl e f g ∙ append-nil ((a ++ []) ++ []) ∙ append-nil (a ++ []) ∙ append-nil a

two : (a b c d : Lines) → c ≡ [] → d ≡ [] → (a ++ b ++ c ++ d) ≡ a ++ b
two a b c d f g = four a b c d a b [] [] refl refl f g ∙ append-nil ((a ++ b) ++ []) ∙ append-nil (a ++ b)

three : (a b c d : Lines) → d ≡ [] → (a ++ b ++ c ++ d) ≡ a ++ b ++ c
three a b c d g = four a b c d a b c [] refl refl refl g ∙ append-nil (a ++ b ++ c)

join_S : (a b c d : Lines) (l : List ℕ) → b ≡ [] → c ≡ [] → d ≡ [] → (a ++ b ++ c ++ d) ++ l ∷ [] ≡ (a ++ l ∷ []) ++ b ++ c ++ d
join_S a b c d l e f g = ap (λ (x : Lines). x ++ l ∷ []) (one a b c d e f g) ∙ sym (one (a ++ l ∷ []) b c d e f g)

join_G : (a b c d : Lines) (l : List ℕ) → c ≡ [] → d ≡ [] → (a ++ b ++ c ++ d) ++ l ∷ [] ≡ a ++ (b ++ l ∷ []) ++ c ++ d
join_G a b c d l f g = ap (λ (x : Lines). x ++ l ∷ []) (two a b c d f g) ∙ append_assoc a b (l ∷ []) ∙ sym (two a (b ++ l ∷ []) c d f g)

join_D : (a b c d : Lines) (l : List ℕ) → d ≡ [] → (a ++ b ++ c ++ d) ++ l ∷ [] ≡ a ++ b ++ (c ++ l ∷ []) ++ d
join_D a b c d l g = ap (λ (x : Lines). x ++ l ∷ []) (three a b c d g) ∙ append_assoc (a ++ b) c (l ∷ []) ∙ sym (three a b (c ++ l ∷ []) d g)

join_P : (a b c d : Lines) (l : List ℕ) → (a ++ b ++ c ++ d) ++ l ∷ [] ≡ a ++ b ++ c ++ (d ++ l ∷ [])
join_P a b c d l = append_assoc (a ++ b ++ c) d (l ∷ [])

Started : SectionLines → Type 0
Started s = (list_all is_empty (sections s) ≡ true) ⊎ (0 < length s.start)

started_some : (s : SectionLines) → Started s → list_all is_empty (sections s) ≡ false → 0 < length s.start
unfolding Started
started_some s (inl e) f = absurd (both_ways (list_all is_empty (sections s)) f e)
started_some s (inr h) f = h

-- ---- lines without a fault are sectioned

sound : (rest : Lines) (s : SectionLines) → Sections s → Started s → Faultless (joined s) rest → (t : SectionLines) × AreSectioned (joined s ++ rest) t
unfolding Faultless Started
sound [] s sec started h = let no : Some Missing ≡ None = sym (fault_end s sec) ∙ h in absurd cc
sound (l ∷ rest) s sec started h =
    let e : first_failing (line_tests s l) ≡ None = sym (fault_line s l sec) ∙ h.0 in
    let t = passes (line_tests s l) e in
    let at = λ (x : ℕ) (is : letter l ≡ x). ap (λ (p : ℕ). first_failing (tests_at s p l)) (sym (ap section_place is)) ∙ e in
    let onto = λ (s' : SectionLines) (join : joined s ++ l ∷ [] ≡ joined s'). sym (append_assoc (joined s) (l ∷ []) rest) ∙ ap
    (λ (x : Lines). x ++ rest) join in
    elim (letter_of (letter l) (and_parts (nat_lt (section_place (letter l)) 5) _ t.1.1.0).0) [
      | is_S is ↦
          let w = says_S s l is (at 83 is) in
          let s' : SectionLines = record s { start = s.start ++ l ∷ [] } in
          let join : joined s ++ l ∷ [] ≡ joined s' = join_S s.start s.global s.directory s.param l w.1 w.2 w.3 in
          let sec' : Sections s' = record {
            start = push 83 1 (length s.start + 1) s.start l sec.start (omega arith) w.0;
            global = sec.global;
            directory =
                sec.directory;
            param = sec.param;
          } in
          let more = sound rest s' sec' (started_by s.start l) (subst (λ (b : Lines). Faultless b rest) join h.1) in
          (more.0, subst (λ (x : Lines). AreSectioned x more.0) (sym (onto s' join)) more.1)
      | is_G is ↦
          let w = says_G s l is (at 71 is) in
          let s' : SectionLines = record s { global = s.global ++ l ∷ [] } in
          let join : joined s ++ l ∷ [] ≡ joined s' = join_G s.start s.global s.directory s.param l w.1 w.2 in
          let sec' : Sections s' = record {
            start = sec.start;
            global = push 71 1 (length s.global + 1) s.global l sec.global (omega arith) w.0;
            directory =
                sec.directory;
            param = sec.param;
          } in
          let more = sound rest s' sec' (inr (started_some s started w.3)) (subst (λ (b : Lines). Faultless b rest) join h.1) in
          (more.0, subst (λ (x : Lines). AreSectioned x more.0) (sym (onto s' join)) more.1)
      | is_D is ↦
          let w = says_D s l is (at 68 is) in
          let s' : SectionLines = record s { directory = s.directory ++ l ∷ [] } in
          let join : joined s ++ l ∷ [] ≡ joined s' = join_D s.start s.global s.directory s.param l w.1 in
          let sec' : Sections s' = record {
            start = sec.start;
            global = sec.global;
            directory =
                push 68 1 (length s.directory + 1) s.directory l sec.directory (omega arith) w.0;
            param = sec.param;
          } in
          let more = sound rest s' sec' (inr (started_some s started w.2)) (subst (λ (b : Lines). Faultless b rest) join h.1) in
          (more.0, subst (λ (x : Lines). AreSectioned x more.0) (sym (onto s' join)) more.1)
      | is_P is ↦
          let w = says_P s l is (at 80 is) in
          let s' : SectionLines = record s { param = s.param ++ l ∷ [] } in
          let join : joined s ++ l ∷ [] ≡ joined s' = join_P s.start s.global s.directory s.param l in
          let sec' : Sections s' = record {
            start = sec.start;
            global = sec.global;
            directory = sec.directory;
            param =
                push 80 1 (length s.param + 1) s.param l sec.param (omega arith) w.0;
          } in
          let more = sound rest s' sec' (inr (started_some s started w.1)) (subst (λ (b : Lines). Faultless b rest) join h.1) in
          (more.0, subst (λ (x : Lines). AreSectioned x more.0) (sym (onto s' join)) more.1)
      | is_T is ↦
          let w = says_T s l is (at 84 is) in
          let ended : is_terminated (joined s ++ l ∷ []) ≡ true =
          list_any-append (λ x. letter x == 84) (joined s) (l ∷ []) ∙ or_right (is_terminated (joined s)) _
          (or_left (letter l == 84) false (eq-eqb _ _ is)) in (
            s,
            record {
              last = l;
              after = rest;
              whole = refl;
              some_start = started_some s started w.1;
              some_global = w.2;
              start = sec.start;
              global = sec.global;
              directory = sec.directory;
              param = sec.param;
              terminate = w.0;
              blank = blank_behind (joined s ++ l ∷ []) rest ended h.1;
            },
          )
    ]
  where
    started_by : (ls : Lines) (x : List ℕ) → Started (record s { start = ls ++ x ∷ [] })
    started_by ls x = inr (omega (arith, length-append ls (x ∷ [])))

-- ---- sectioned lines have no fault

grow : (x k : ℕ) (ls : Lines) (l : List ℕ) (todo : Lines) → k ≡ 1 + length ls → AreNumbered x ls → Numbered x k (l ∷ todo) →
    AreNumbered x (ls ++ l ∷ []) × (k + 1 ≡ 1 + length (ls ++ l ∷ []))
grow x k ls l todo is done more = (push x 1 k ls l done is more.0, omega (arith, is, length-append ls (l ∷ [])))

all_P : (todo : Lines) (k : ℕ) (s : SectionLines) (more : Lines) → Sections s → 0 < length s.start → 0 < length s.global → k ≡ 1 + length s.param →
    Numbered 80 k todo
    → Faultless (joined (record s { param = s.param ++ todo })) more → Faultless (joined s) (todo ++ more)
unfolding Faultless
all_P [] k s more sec some any is h done = subst (λ (x : Lines). Faultless (s.start ++ s.global ++ s.directory ++ x) more) (append-nil s.param) done
all_P (l ∷ todo) k s more sec some any is h done =
    let g = grow 80 k s.param l todo is sec.param h in
    let s' : SectionLines = record s { param = s.param ++ l ∷ [] } in
    let sec' : Sections s' = record { start = sec.start; global = sec.global; directory = sec.directory; param = g.0 } in
    let tail : Faultless (joined s') (todo ++ more) = all_P todo (k + 1) s' more sec' some any g.1 h.1
    (subst (λ (x : Lines). Faultless (s.start ++ s.global ++ s.directory ++ x) more) (sym (append_assoc s.param (l ∷ []) todo)) done) in (
      fault_line s l sec ∙ pass_P s l (subst (λ (n : ℕ). IsNumbered 80 n l) (is ∙ omega arith) h.0) (not_first s l some) any,
      subst (λ (x : Lines). Faultless x (todo ++ more)) (sym (join_P s.start s.global s.directory s.param l)) tail,
    )

all_D : (todo : Lines) (k : ℕ) (s : SectionLines) (more : Lines) → Sections s → s.param ≡ [] → 0 < length s.start → 0 < length s.global →
    k ≡ 1 + length s.directory → Numbered 68 k todo
    → Faultless (joined (record s { directory = s.directory ++ todo })) more → Faultless (joined s) (todo ++ more)
unfolding Faultless
all_D [] k s more sec p some any is h done = subst (λ (x : Lines). Faultless (s.start ++ s.global ++ x ++ s.param) more) (append-nil s.directory) done
all_D (l ∷ todo) k s more sec p some any is h done =
    let g = grow 68 k s.directory l todo is sec.directory h in
    let s' : SectionLines = record s { directory = s.directory ++ l ∷ [] } in
    let sec' : Sections s' = record { start = sec.start; global = sec.global; directory = g.0; param = sec.param } in
    let tail : Faultless (joined s') (todo ++ more) = all_D todo (k + 1) s' more sec' p some any g.1 h.1
    (subst (λ (x : Lines). Faultless (s.start ++ s.global ++ x ++ s.param) more) (sym (append_assoc s.directory (l ∷ []) todo)) done) in (
      fault_line s l sec ∙ pass_D s l (subst (λ (n : ℕ). IsNumbered 68 n l) (is ∙ omega arith) h.0) p (not_first s l some) any,
      subst (λ (x : Lines). Faultless x (todo ++ more)) (sym (join_D s.start s.global s.directory s.param l p)) tail,
    )

all_G : (todo : Lines) (k : ℕ) (s : SectionLines) (more : Lines) → Sections s → s.directory ≡ [] → s.param ≡ [] → 0 < length s.start → k ≡ 1 + length s.global →
    Numbered 71 k todo
    → Faultless (joined (record s { global = s.global ++ todo })) more → Faultless (joined s) (todo ++ more)
unfolding Faultless
all_G [] k s more sec d p some is h done = subst (λ (x : Lines). Faultless (s.start ++ x ++ s.directory ++ s.param) more) (append-nil s.global) done
all_G (l ∷ todo) k s more sec d p some is h done =
    let g = grow 71 k s.global l todo is sec.global h in
    let s' : SectionLines = record s { global = s.global ++ l ∷ [] } in
    let sec' : Sections s' = record { start = sec.start; global = g.0; directory = sec.directory; param = sec.param } in
    let tail : Faultless (joined s') (todo ++ more) = all_G todo (k + 1) s' more sec' d p some g.1 h.1
    (subst (λ (x : Lines). Faultless (s.start ++ x ++ s.directory ++ s.param) more) (sym (append_assoc s.global (l ∷ []) todo)) done) in (
      fault_line s l sec ∙ pass_G s l (subst (λ (n : ℕ). IsNumbered 71 n l) (is ∙ omega arith) h.0) d p (not_first s l some),
      subst (λ (x : Lines). Faultless x (todo ++ more)) (sym (join_G s.start s.global s.directory s.param l d p)) tail,
    )

all_S : (todo : Lines) (k : ℕ) (s : SectionLines) (more : Lines) → Sections s → s.global ≡ [] → s.directory ≡ [] → s.param ≡ [] → k ≡ 1 + length s.start →
    Numbered 83 k todo
    → Faultless (joined (record s { start = s.start ++ todo })) more → Faultless (joined s) (todo ++ more)
unfolding Faultless
all_S [] k s more sec b d p is h done = subst (λ (x : Lines). Faultless (x ++ s.global ++ s.directory ++ s.param) more) (append-nil s.start) done
all_S (l ∷ todo) k s more sec b d p is h done =
    let g = grow 83 k s.start l todo is sec.start h in
    let s' : SectionLines = record s { start = s.start ++ l ∷ [] } in
    let sec' : Sections s' = record { start = g.0; global = sec.global; directory = sec.directory; param = sec.param } in
    let tail : Faultless (joined s') (todo ++ more) = all_S todo (k + 1) s' more sec' b d p g.1 h.1
    (subst (λ (x : Lines). Faultless (x ++ s.global ++ s.directory ++ s.param) more) (sym (append_assoc s.start (l ∷ []) todo)) done) in (
      fault_line s l sec ∙ pass_S s l (subst (λ (n : ℕ). IsNumbered 83 n l) (is ∙ omega arith) h.0) b d p,
      subst (λ (x : Lines). Faultless x (todo ++ more)) (sym (join_S s.start s.global s.directory s.param l b d p)) tail,
    )

complete : (ls : Lines) (s : SectionLines) → AreSectioned ls s → Faultless [] ls
unfolding Faultless
complete ls s h =
    let sec : Sections s = record { start = h.start; global = h.global; directory = h.directory; param = h.param } in
    let ended : is_terminated (joined s ++ h.last ∷ []) ≡ true =
    list_any-append (λ x. letter x == 84) (joined s) (h.last ∷ []) ∙ or_right (is_terminated (joined s)) _
    (or_left (letter h.last == 84) false (eq-eqb _ _ h.terminate.numbered.letter_is)) in
    let last : Faultless (joined s) (h.last ∷ h.after) = (
      fault_line s h.last sec ∙ pass_T s h.last h.terminate (not_first s h.last h.some_start) h.some_global,
      behind_blank (joined s ++ h.last ∷ []) h.after ended h.blank,
    ) in
    let p : Faultless (s.start ++ s.global ++ s.directory ++ []) (s.param ++ h.last ∷ h.after) =
    all_P s.param 1 (record_of s.start s.global s.directory []) (h.last ∷ h.after)
    (record { start = h.start; global = h.global; directory = h.directory; param = tt }) h.some_start h.some_global refl h.param last in
    let d : Faultless (s.start ++ s.global ++ [] ++ []) (s.directory ++ (s.param ++ h.last ∷ h.after)) =
    all_D s.directory 1 (record_of s.start s.global [] []) (s.param ++ h.last ∷ h.after)
    (record { start = h.start; global = h.global; directory = tt; param = tt }) refl h.some_start h.some_global refl h.directory p in
    let g : Faultless (s.start ++ [] ++ [] ++ []) (s.global ++ (s.directory ++ (s.param ++ h.last ∷ h.after))) =
    all_G s.global 1 (record_of s.start [] [] []) (s.directory ++ (s.param ++ h.last ∷ h.after))
    (record { start = h.start; global = tt; directory = tt; param = tt }) refl refl h.some_start refl h.global d in
    let a : Faultless ([] ++ [] ++ [] ++ []) (s.start ++ (s.global ++ (s.directory ++ (s.param ++ h.last ∷ h.after)))) =
    all_S s.start 1 (record_of [] [] [] []) (s.global ++ (s.directory ++ (s.param ++ h.last ∷ h.after)))
    (record { start = tt; global = tt; directory = tt; param = tt }) refl refl refl refl h.start g in
    let flat : s.start ++ (s.global ++ (s.directory ++ (s.param ++ h.last ∷ h.after))) ≡ ls =
    sym (h.whole ∙ append_assoc (s.start ++ s.global ++ s.directory) s.param (h.last ∷ h.after) ∙ append_assoc (s.start ++ s.global) s.directory
    (s.param ++ h.last ∷ h.after) ∙ append_assoc s.start s.global (s.directory ++ (s.param ++ h.last ∷ h.after))) in
    subst (λ (x : Lines). Faultless [] x) flat a

-- ---- the lines that are sectioned are those by letter

pub blank_letter : (x : ℕ) (l : List ℕ) → is_blank l ≡ true → (x == 32) ≡ false → (x == 13) ≡ false → (x == 0) ≡ false → (letter l == x) ≡ false
blank_letter x l blank no32 no13 no0 = at_place l 72 blank
  where
    other : (b : ℕ) → (b == 32 || b == 13) ≡ true → (b == x) ≡ false
    other b h = elim (or_cases (b == 32) (b == 13) h) [
      | inl e ↦ ne_eqb b x (λ is. both_ways (x == 32) no32 (eq-eqb x 32 (sym is ∙ eqb-true b 32 e)))
      | inr e ↦ ne_eqb b x (λ is. both_ways (x == 13) no13 (eq-eqb x 13 (sym is ∙ eqb-true b 13 e)))
    ]

    at_place : (bytes : List ℕ) (i : ℕ) → is_blank bytes ≡ true → (slice_index bytes i == x) ≡ false
    at_place [] i h = ne_eqb 0 x (λ is. both_ways (x == 0) no0 (eq-eqb x 0 (sym is)))
    at_place (b ∷ bytes) zero h = other b (and_parts (b == 32 || b == 13) (is_blank bytes) h).0
    at_place (b ∷ bytes) (suc i) h = at_place bytes i (and_parts (b == 32 || b == 13) (is_blank bytes) h).1

of_blank : (x : ℕ) (ls : Lines) → list_all is_blank ls ≡ true → (x == 32) ≡ false → (x == 13) ≡ false → (x == 0) ≡ false → of_letter x ls ≡ []
of_blank x [] h a b c = refl
of_blank x (l ∷ ls) h a b c =
    let p = and_parts (is_blank l) (list_all is_blank ls) h in
    cond-false (letter l == x) _ _ (blank_letter x l p.0 a b c) ∙ of_blank x ls p.1 a b c

pub sections_of-AreSectioned : (ls : Lines) (s : SectionLines) → AreSectioned ls s → sections_of ls ≡ s
sections_of-AreSectioned ls s h =
    let sec : Sections s = record { start = h.start; global = h.global; directory = h.directory; param = h.param } in
    let behind = λ (x : ℕ) (t : (84 == x) ≡ false) (a : (x == 32) ≡ false) (b : (x == 13) ≡ false) (c : (x == 0) ≡ false).
    filter-append (λ l. letter l == x) (joined s) (h.last ∷ h.after)
    ∙ ap (λ (t : Lines). of_letter x (joined s) ++ t) (cond-false (letter h.last == x) _ _
    (ap (λ (n : ℕ). n == x) h.terminate.numbered.letter_is ∙ t) ∙ of_blank x h.after h.blank a b c)
    ∙ append-nil (of_letter x (joined s)) in
    ap sections_of h.whole
    ∙ all_four (behind 83 refl refl refl refl) (behind 71 refl refl refl refl) (behind 68 refl refl refl refl) (behind 80 refl refl refl refl)
    ∙ sections_of-joined s sec

-- ---- faults by place

seam : (before : Lines) (l : List ℕ) (rest : Lines) → slice_get (before ++ l ∷ rest) (length before) ≡ Some l
seam [] l rest = refl
seam (b ∷ before) l rest = seam before l rest

pub fault_at_line : (before : Lines) (l : List ℕ) (rest : Lines) → line_fault (before ++ l ∷ rest) (length before) ≡ fault_behind before (Some l)
fault_at_line before l rest =
    ap (λ (x : Lines). fault_behind x (slice_get (before ++ l ∷ rest) (length before))) (take_at before (l ∷ rest) (length before) refl)
    ∙ ap (fault_behind before) (seam before l rest)

pub fault_past : (ls : Lines) (i : ℕ) → length ls ≤ i → line_fault ls i ≡ fault_behind ls None
fault_past ls i h = ap (λ (x : Lines). fault_behind x (slice_get ls i)) (take_all i ls h) ∙ ap (fault_behind ls) (slice_get_past ls i h)

faultless_from : (rest before : Lines) → ((j : ℕ) → j ≤ length (before ++ rest) → line_fault (before ++ rest) j ≡ None) → Faultless before rest
unfolding Faultless
faultless_from [] before h = subst (λ (x : Lines). fault_behind x None ≡ None) (append-nil before)
    (sym (fault_past (before ++ []) (length (before ++ [])) (omega arith)) ∙ h (length (before ++ [])) (omega arith))
faultless_from (l ∷ rest) before h = (
  sym (fault_at_line before l rest) ∙ h (length before) (omega (arith, length-append before (l ∷ rest))),
  faultless_from rest (before ++ l ∷ []) (subst (λ (x : Lines). (j : ℕ) → j ≤ length x → line_fault x j ≡ None) (sym (append_assoc before (l ∷ []) rest)) h),
)

faultless_at : (rest before : Lines) → Faultless before rest → (j : ℕ) → length before ≤ j → line_fault (before ++ rest) j ≡ None
unfolding Faultless
faultless_at [] before h j low = subst (λ (x : Lines). line_fault x j ≡ None) (sym (append-nil before)) (fault_past before j low ∙ h)
faultless_at (l ∷ rest) before h j low =
    elim (cases_order (length before) j) [
      | inl eq ↦ subst (λ (k : ℕ). line_fault (before ++ l ∷ rest) k ≡ None) eq (fault_at_line before l rest ∙ h.0)
      | inr (inl lt) ↦ subst (λ (x : Lines). line_fault x j ≡ None) (append_assoc before (l ∷ []) rest)
          (faultless_at rest (before ++ l ∷ []) h.1 j (omega (arith, length-append before (l ∷ []))))
      | inr (inr gt) ↦ absurd (omega arith)
    ]

-- ---- the two laws

abbrev nothing : SectionLines
nothing = record_of [] [] [] []

pub faultless_sectioned : (ls : Lines) → ((j : ℕ) → j ≤ length ls → line_fault ls j ≡ None) → AreSectioned ls (sections_of ls)
unfolding Started
faultless_sectioned ls h =
    let r = sound ls nothing (record { start = tt; global = tt; directory = tt; param = tt }) (inl refl) (faultless_from ls [] h) in
    subst (λ (s : SectionLines). AreSectioned ls s) (sym (sections_of-AreSectioned ls r.0 r.1)) r.1

pub sectioned_faultless : (ls : Lines) (s : SectionLines) → AreSectioned ls s → (j : ℕ) → line_fault ls j ≡ None
sectioned_faultless ls s h j = faultless_at ls [] (complete ls s h) j (omega arith)

-- what is past the end has the fault of the end
pub fault_of_end : (ls : Lines) (i : ℕ) → length ls ≤ i → line_fault ls i ≡ line_fault ls (length ls)
fault_of_end ls i h = fault_past ls i h ∙ sym (fault_past ls (length ls) (omega arith))
