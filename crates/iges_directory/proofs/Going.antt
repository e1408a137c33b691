-- One entry after the other is the reading of the directory.
use Rattle.std.proofs.Common.{◌≡◌, inl, inr, ℕ, zero, suc, ◌+◌, ◌-◌, ◌*◌, ◌<◌, ◌≤◌, true, false, List, [], ◌∷◌, ◌++◌, length, drop, Some, None, Result, Ok}
use Rattle.std.proofs.Common.{Err, refl, sym, ap, subst, ◌∙◌, append_assoc, arith, length-append}
use Rattle.std.specs.Prelude.{slice_get, IfOk}
use Rattle.std.proofs.lemmas.Bool.{cases_order}
use Rattle.std.proofs.lemmas.List.{append-nil, drop_all}
use Rattle.std.proofs.lemmas.Option.{none-some}
use Rattle.iges_base.specs.InLine.{is_in_line}
use Rattle.iges_base.specs.First.{first_failing}
use Rattle.iges_base.proofs.Lists.{open_at}
use Rattle.iges_lines.specs.declared.reason.Reason.TheVariants.{Unpaired}
use Rattle.iges_lines.specs.declared.fault.PassFault.{PassFault}
use Rattle.iges_lines.specs.declared.fault.PassFault.TheVariants as faults
use Rattle.iges_lines.specs.Gives.{Gives, IfBad}
use Rattle.iges_lines.specs.Lines.{SectionLines}
use Rattle.iges_lines.specs.Sectioned.{AreSections}
use Rattle.iges_lines.proofs.First.{first_from-faultless, first_from-at}
use Rattle.iges_directory.specs.declared.entry.Placed.{Placed}
use Rattle.iges_directory.specs.declared.pair.PairFault.{PairFault}
use Rattle.iges_directory.specs.declared.pair.PairFault.TheVariants.{First, Second}
use Rattle.iges_directory.specs.Bounds.{IsBounded, AreBounded}
use Rattle.iges_directory.specs.Entries.{AreEntries}
use Rattle.iges_directory.specs.DirectoryFaults.{first_tests, second_tests, directory_fault, IsDirectoryFault}
use Rattle.iges_directory.specs.Halves.{AnswersPair, fault_at}
use Rattle.iges_directory.specs.Reading.{entries_of, entries_unless, read_directory}
use Rattle.iges_directory.proofs.Exact.{entry-IsEntry, entry_two, read_directory-AreEntries, read_directory-IsDirectoryFault}
use Rattle.iges_directory.proofs.InColumns.{entry_bounded}

abbrev Lines : Type 0
Lines = List (List ℕ)

-- ---- two lines of many

two_lines : (ds : Lines) (i : ℕ) (first second : List ℕ) → Some first ≡ slice_get ds (2 * i) → Some second ≡ slice_get ds (2 * i + 1) →
    drop (2 * i) ds ≡ first ∷ second ∷ drop (2 * (i + 1)) ds
two_lines ds i first second e f =
    let n : 2 * i + 1 + 1 ≡ 2 * (i + 1) = omega arith in
    open_at ds (2 * i) first (sym e) ∙ ap (λ (xs : Lines). first ∷ xs) (open_at ds (2 * i + 1) second (sym f) ∙ ap (λ (k : ℕ). second ∷ drop k ds) n)

fault_behind : (n i j : ℕ) (ds : Lines) → 2 * i ≤ length ds → directory_fault n ds (2 * i + j) ≡ directory_fault n (drop (2 * i) ds) j
fault_behind n zero j ds h = ap (directory_fault n ds) (omega arith)
fault_behind n (suc i) j [] h = absurd (omega arith)
fault_behind n (suc i) j (first ∷ []) h = absurd (omega arith)
fault_behind n (suc i) j (first ∷ second ∷ ds) h =
    let e : 2 * suc i + j ≡ suc (suc (2 * i + j)) = omega arith in
    let f : 2 * suc i ≡ suc (suc (2 * i)) = omega arith in
    ap (directory_fault n (first ∷ second ∷ ds)) e ∙ fault_behind n i j ds (omega arith) ∙ ap (λ (k : ℕ). directory_fault n (drop k (first ∷ second ∷ ds)) j)
    (sym f)

-- ---- the loop

-- so many entries have been read, without a fault
pub record IsRead (s : SectionLines) (i : ℕ) (es : List Placed) : Type 0 where
  pub within : 2 * i ≤ length s.directory
  pub passed : (j : ℕ) → j < 2 * i → directory_fault (length s.param) s.directory j ≡ None
  pub entries_are : es ++ entries_of (drop (2 * i) s.directory) ≡ entries_of s.directory
  pub count : length es ≡ i
  pub bounded : (k : ℕ) (p : Placed) → slice_get es k ≡ Some p → IsBounded p.entry

pub read_none : (s : SectionLines) (es : List Placed) → es ≡ [] → IsRead s 0 es
read_none s es e =
    subst (λ (xs : List Placed). IsRead s 0 xs) (sym e)
    (record { within = omega arith; passed = λ j h. absurd (omega arith); entries_are = refl; count = refl; bounded = λ k p h. absurd (none-some p h) })

all_bounded : (es : List Placed) (p : Placed) → ((k : ℕ) (q : Placed) → slice_get es k ≡ Some q → IsBounded q.entry) → IsBounded p.entry
    → (k : ℕ) (q : Placed) → slice_get (es ++ p ∷ []) k ≡ Some q → IsBounded q.entry
all_bounded [] p h b zero q e = let same : p ≡ q = cc in subst (λ (x : Placed). IsBounded x.entry) same b
all_bounded [] p h b (suc k) q e = absurd (none-some q e)
all_bounded (x ∷ es) p h b zero q e = h 0 q e
all_bounded (x ∷ es) p h b (suc k) q e = all_bounded es p (λ j r f. h (suc j) r f) b k q e

module _ (s : SectionLines) (i : ℕ) (es : List Placed) (r : IsRead s i es) where
  abbrev n : ℕ
  n = length s.param

  module _ (first second : List ℕ) (first-is : Some first ≡ slice_get s.directory (2 * i)) (second-is : Some second ≡ slice_get s.directory (2 * i + 1)) where
    here : drop (2 * i) s.directory ≡ first ∷ second ∷ drop (2 * (i + 1)) s.directory
    here = two_lines s.directory i first second first-is second-is

    first_here : directory_fault n s.directory (2 * i) ≡ first_failing (first_tests false first)
    first_here =
        let e : 2 * i ≡ 2 * i + 0 = omega arith in
        ap (directory_fault n s.directory) e ∙ fault_behind n i 0 s.directory r.within ∙ ap (λ (ds : Lines). directory_fault n ds 0) here

    second_here : directory_fault n s.directory (2 * i + 1) ≡ first_failing (second_tests n first second)
    second_here = fault_behind n i 1 s.directory r.within ∙ ap (λ (ds : Lines). directory_fault n ds 1) here

    long : 2 * (i + 1) ≤ length s.directory
    long = omega (arith, ap length here, length_drop_le (2 * i) s.directory)
      where
        length_drop_le : (k : ℕ) (xs : Lines) → length (drop k xs) ≡ length xs - k
        length_drop_le zero xs = omega arith
        length_drop_le (suc k) [] = omega arith
        length_drop_le (suc k) (x ∷ xs) = length_drop_le k xs ∙ omega arith

    passed_first : first_failing (first_tests false first) ≡ None → (j : ℕ) → j < 2 * i + 1 → directory_fault n s.directory j ≡ None
    passed_first e j h =
        elim (cases_order j (2 * i)) [
          | inl same ↦ ap (directory_fault n s.directory) same ∙ first_here ∙ e
          | inr (inl lt) ↦ r.passed j lt
          | inr (inr gt) ↦ absurd (omega arith)
        ]

    pub read_next : (m : ℕ) → m ≡ n → (p : Placed) → is_in_line second ≡ true → AnswersPair m first second (Ok p) → (new : List Placed) → new ≡ es ++ p ∷ [] →
        IsRead s (i + 1) new
    read_next m m-is p in_line answer new new-is =
        let a = subst (λ (k : ℕ). AnswersPair k first second (Ok p)) m-is answer in
        let two = entry_two n first second p a.0 a.1 in
        let count = r.count in
        subst (λ (xs : List Placed). IsRead s (i + 1) xs) (sym new-is) (
        record {
          within = long;
          passed = λ j h. elim (cases_order j (2 * i + 1)) [
            | inl same ↦ ap (directory_fault n s.directory) same ∙ second_here ∙ two.1
            | inr (inl lt) ↦ passed_first two.0 j lt
            | inr (inr gt) ↦ absurd (omega arith)
          ];
          entries_are = append_assoc es (p ∷ []) (entries_of (drop (2 * (i + 1)) s.directory))
              ∙ ap (λ (e : Placed). es ++ e ∷ entries_of (drop (2 * (i + 1)) s.directory)) (sym (entry-IsEntry first second p a.0))
              ∙ ap (λ (ds : Lines). es ++ entries_of ds) (sym here) ∙ r.entries_are;
          count = omega (arith, count, length-append es (p ∷ []));
          bounded = all_bounded es p r.bounded (entry_bounded first second p in_line a.0);
        }
        )

    fails : (above : ℕ) (f : PairFault) → above ≡ length s.start + length s.global + 2 * i → AnswersPair n first second (Err f) →
        read_directory s ≡ Err (fault_at above f)
    unfolding read_directory
    fails above (First x) is a =
        ap (entries_unless s) (first_from-at (directory_fault n s.directory) (length s.directory) 0 (2 * i) x (omega arith) (omega (arith, long))
        (first_here ∙ a) (λ j low h. r.passed j h))
        ∙ ap (λ (k : ℕ). Err (record { line = k; reason = x })) (omega (arith, is))
    fails above (Second x) is a =
        ap (entries_unless s) (first_from-at (directory_fault n s.directory) (length s.directory) 0 (2 * i + 1) x (omega arith) (omega (arith, long))
        (second_here ∙ a.1) (λ j low h. passed_first a.0 j h))
        ∙ ap (λ (k : ℕ). Err (record { line = k; reason = x })) (omega (arith, is))

    pub read_fault : (m : ℕ) → m ≡ n → (above : ℕ) (f : PairFault) → above ≡ length s.start + length s.global + 2 * i → AnswersPair m first second (Err f) →
        read_directory s ≡ Err (fault_at above f)
    read_fault m m-is above f is a = fails above f is (subst (λ (k : ℕ). AnswersPair k first second (Err f)) m-is a)

  pub read_unpaired : (above : ℕ) → length s.directory ≡ 2 * i + 1 → above ≡ length s.start + length s.global + 2 * i →
      read_directory s ≡ Err (fault_at above (First Unpaired))
  unfolding read_directory
  read_unpaired above odd is =
      ap (entries_unless s) (first_from-at (directory_fault n s.directory) (length s.directory) 0 (2 * i) Unpaired (omega arith) (omega (arith, odd)) lone
      (λ j low h. r.passed j h))
      ∙ ap (λ (k : ℕ). Err (record { line = k; reason = Unpaired })) (omega (arith, is))
    where
      one_line : (ds : Lines) (k : ℕ) → length ds ≡ k + 1 → directory_fault n (drop k ds) 0 ≡ Some Unpaired
      one_line [] k e = absurd (omega arith)
      one_line (d ∷ []) zero e = refl
      one_line (d ∷ x ∷ ds) zero e = absurd (omega arith)
      one_line (d ∷ ds) (suc k) e = one_line ds k (omega arith)

      lone : directory_fault n s.directory (2 * i) ≡ Some Unpaired
      lone = let e : 2 * i ≡ 2 * i + 0 = omega arith in ap (directory_fault n s.directory) e ∙ fault_behind n i 0 s.directory r.within ∙ one_line s.directory
          (2 * i) odd

  pub read_all : length s.directory ≡ 2 * i → read_directory s ≡ Ok es
  unfolding read_directory
  read_all even =
      ap (entries_unless s) (first_from-faultless (directory_fault n s.directory) (length s.directory) 0 (λ j low h. r.passed j (omega (arith, even))))
      ∙ ap (λ (xs : List Placed). Ok xs) (sym r.entries_are ∙ ap (λ (ds : Lines). es ++ entries_of ds)
      (drop_all (2 * i) s.directory (omega (arith, even))) ∙ append-nil es)

  pub read_bounded : AreSections s → length s.directory ≡ 2 * i → AreBounded es
  read_bounded h even =
      let count = r.count in
      let within = h.within in
      record {
        each = r.bounded;
        few = omega (
          arith,
          count,
          within,
          even,
          length-append (s.start ++ s.global ++ s.directory) s.param,
          length-append (s.start ++ s.global) s.directory,
        );
      }

-- ---- the public clauses

abbrev Answered : Type 0
Answered = Result (List Placed) PassFault

pub found_from : (s : SectionLines) (r : Answered) → Gives r (read_directory s) → IfOk r (AreEntries (length s.param) s.directory)
found_from s (Ok es) g = read_directory-AreEntries s es g
found_from s (Err e) g = tt

pub fault_from : (s : SectionLines) (r : Answered) → Gives r (read_directory s) → IfBad r (IsDirectoryFault s)
fault_from s (Ok es) g = tt
fault_from s (Err (faults.Bad f)) g = read_directory-IsDirectoryFault s f g
fault_from s (Err faults.NoMemory) g = tt
