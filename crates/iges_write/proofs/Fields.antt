-- The fields of the terminate line and of the directory's lines.
use Rattle.std.proofs.Common.{◌≡◌, inl, inr, ℕ, zero, suc, ◌+◌, ◌*◌, ◌<◌, true, false, List, [], ◌∷◌, ◌++◌, length, take, drop, get_or, ℤ, pos, Some, refl, sym}
use Rattle.std.proofs.Common.{ap, subst, ◌∙◌, append_assoc, arith, length-append, lit<}
use Rattle.std.specs.Prelude.{◌==◌}
use Rattle.std.specs.Char.{is_ascii_digit}
use Rattle.std.specs.Fmt.{decimal, signed_decimal}
use Rattle.std.specs.List.{AllByRecursion, AllZip, list_all, concat}
use Rattle.std.specs.Ordering.{int_eq}
use Rattle.std.proofs.lemmas.Bool.{and_parts, and_from, cond-true, cond-false, cases_Bool, or_left, or_right, le-leb, ne_eqb}
use Rattle.std.proofs.lemmas.List.{append-nil, take_at}
use Rattle.iges_fields.specs.declared.value.Value.{Value}
use Rattle.iges_base.specs.Word.{spaces, column_number}
use Rattle.iges_lines.specs.Lines.{SectionLines}
use Rattle.iges_lines.specs.Sectioned.{IsCount, IsTerminate}
use Rattle.iges_directory.specs.declared.entry.Entry.{Entry}
use Rattle.iges_directory.specs.declared.entry.Placed.{Placed}
use Rattle.iges_directory.specs.Entries.{status_of, IsEntry, has_record, AreEntries}
use Rattle.iges_write.specs.Text.{right, column, has_no_record, first_of, directory_lines, count_field, counts_columns}
use Rattle.iges_directory.specs.Bounds.{fits_columns}
use Rattle.iges_write.proofs.WritableEntry.{IsWritableEntry}
use Rattle.iges_write.proofs.Columns.{AreWide, length-right, right_7, right_8, line_numbered, numbered_from}

-- ---- chunks of eight

abbrev pub Are8 : List (List ℕ) → Type 0
Are8 cs = AreWide 8 cs

drop-8 : (c rest : List ℕ) (m : ℕ) → length c ≡ 8 → drop (8 + m) (c ++ rest) ≡ drop m rest
drop-8 c rest m is = subst (λ (k : ℕ). drop (k + m) (c ++ rest) ≡ drop m rest) is (past c)
  where
    past : (xs : List ℕ) → drop (length xs + m) (xs ++ rest) ≡ drop m rest
    past [] = let e : 0 + m ≡ m = omega arith in ap (λ (k : ℕ). drop k rest) e
    past (x ∷ xs) = let e : suc (length xs) + m ≡ suc (length xs + m) = omega arith in ap (λ (k : ℕ). drop k (x ∷ xs ++ rest)) e ∙ past xs

pub chunk : (i : ℕ) (cs : List (List ℕ)) (tail : List ℕ) → Are8 cs → i < length cs → take 8 (drop (8 * i) (concat cs ++ tail)) ≡ get_or cs i []
chunk i [] tail h lt = absurd (omega arith)
chunk zero (c ∷ cs) tail h lt = ap (take 8) (append_assoc c (concat cs) tail) ∙ take_at c (concat cs ++ tail) 8 h.0
chunk (suc i) (c ∷ cs) tail h lt =
    let step : 8 * suc i ≡ 8 + 8 * i = omega arith in
    ap (λ (k : ℕ). take 8 (drop k (concat (c ∷ cs) ++ tail))) step ∙ ap (λ (x : List ℕ). take 8 (drop (8 + 8 * i) x)) (append_assoc c (concat cs) tail)
    ∙ ap (take 8) (drop-8 c (concat cs ++ tail) (8 * i) h.0) ∙ chunk i cs tail h.1 (omega arith)

-- ---- the terminate line

pub length-count : (x n : ℕ) → length (count_field x n) ≡ 8
length-count x n = ap suc (length-right 7 (decimal n))

count_holds : (x n : ℕ) → n < 10000000 → IsCount x n (count_field x n)
count_holds x n lt = (refl, right_7 n lt)

counts_chunks : (s g d p : ℕ) → counts_columns s g d p ≡ concat (count_field 83 s ∷ count_field 71 g ∷ count_field 68 d ∷ count_field 80 p ∷ []) ++ spaces 40
counts_chunks s g d p =
    let a = count_field 83 s in
    let b = count_field 71 g in
    let c = count_field 68 d in
    let e = count_field 80 p in
    ap (λ (x : List ℕ). x ++ spaces 40) (append_assoc (a ++ b) c e ∙ append_assoc a b (c ++ e) ∙ ap (λ (x : List ℕ). a ++ (b ++ (c ++ x))) (sym (append-nil e)))

pub length-counts_columns : (s g d p : ℕ) → length (counts_columns s g d p) ≡ 72
length-counts_columns s g d p =
    let a = count_field 83 s in
    let b = count_field 71 g in
    let c = count_field 68 d in
    let e = count_field 80 p in
    omega (
      arith,
      length-count 83 s,
      length-count 71 g,
      length-count 68 d,
      length-count 80 p,
      length-append (a ++ b ++ c ++ e) (spaces 40),
      length-append
          (a ++ b ++ c) e,
      length-append (a ++ b) c,
      length-append a b,
    )

pub terminates : (t : SectionLines) (s g d p : ℕ) → length t.start ≡ s → length t.global ≡ g → length t.directory ≡ d → length t.param ≡ p
    → s < 10000000 → g < 10000000 → d < 10000000 → p < 10000000 → IsTerminate t (counts_columns s g d p ++ 84 ∷ right 7 (decimal 1))
terminates t s g d p es eg ed ep ls lg ld lp =
    let tail = spaces 40 ++ 84 ∷ right 7 (decimal 1) in
    let cs = count_field 83 s ∷ count_field 71 g ∷ count_field 68 d ∷ count_field 80 p ∷ [] in
    let eight : Are8 cs = (length-count 83 s, (length-count 71 g, (length-count 68 d, (length-count 80 p, tt)))) in
    let whole : counts_columns s g d p ++ 84 ∷ right 7 (decimal 1) ≡ concat cs ++ tail =
    ap (λ (x : List ℕ). x ++ 84 ∷ right 7 (decimal 1)) (counts_chunks s g d p) ∙ append_assoc (concat cs) (spaces 40) (84 ∷ right 7 (decimal 1)) in
    record {
      numbered = line_numbered 84 1 (counts_columns s g d p) (length-counts_columns s g d p) (lit< tt);
      start = held 83 (length t.start) s _ es (ap (λ (x : List ℕ). take 8 (drop 0 x)) whole ∙ chunk 0 cs tail eight (lit< tt)) ls;
      global = held 71 (length t.global) g _ eg (ap (λ (x : List ℕ). take 8 (drop 8 x)) whole ∙ chunk 1 cs tail eight (lit< tt)) lg;
      directory = held 68 (length t.directory) d _ ed (ap (λ (x : List ℕ). take 8 (drop 16 x)) whole ∙ chunk 2 cs tail eight (lit< tt)) ld;
      param = held 80 (length t.param) p _ ep (ap (λ (x : List ℕ). take 8 (drop 24 x)) whole ∙ chunk 3 cs tail eight (lit< tt)) lp;
    }
  where
    held : (x k n : ℕ) (f : List ℕ) → k ≡ n → f ≡ count_field x n → n < 10000000 → IsCount x k f
    held x k n f e is lt = subst (λ (m : ℕ). IsCount x m f) (sym e) (subst (λ (y : List ℕ). IsCount x n y) (sym is) (count_holds x n lt))

-- ---- the directory's lines

pub length-column : (z : ℤ) → length (column z) ≡ 8
length-column z = length-right 8 (signed_decimal z)

digits_status : (s : List ℕ) → list_all is_ascii_digit s ≡ true → status_of s ≡ s
digits_status [] h = refl
digits_status (b ∷ s) h =
    let p = and_parts (is_ascii_digit b) (list_all is_ascii_digit s) h in
    ap (λ (c : ℕ). c ∷ status_of s) (cond-false (b == 32) 48 b (ne_eqb b 32 (λ is. digit_32 (subst (λ (x : ℕ). is_ascii_digit x ≡ true) is p.0))))
    ∙ ap (λ (t : List ℕ). b ∷ t) (digits_status s p.1)
  where
    digit_32 : is_ascii_digit 32 ≡ true → ⊥
    digit_32 e = absurd cc

pub small_column : (n : ℕ) → n < 10000000 → fits_columns (pos n) ≡ true
small_column n lt = le-leb n 99999999 (omega (arith, lt))

-- the nine fields of an entry's first line
abbrev pub first_fields : Entry → ℕ → List (List ℕ)
first_fields e first = column e.kind ∷ column (pos first) ∷ column e.structure ∷ column e.font ∷ column e.level ∷ column e.view ∷ column e.matrix
    ∷ column e.display ∷ e.status ∷ []

abbrev pub second_fields : Entry → ℕ → List (List ℕ)
second_fields e count = column e.kind ∷ column e.weight ∷ column e.colour ∷ column (pos count) ∷ column e.form ∷ spaces 8 ∷ spaces 8 ∷ e.label
    ∷ column e.subscript ∷ []

pub first_eight : (e : Entry) (first : ℕ) → length e.status ≡ 8 → Are8 (first_fields e first)
first_eight e first status = (
  length-column e.kind,
  (
    length-column (pos first),
    (
      length-column e.structure,
      (length-column e.font, (length-column e.level, (length-column e.view, (length-column e.matrix, (length-column e.display, (status, tt)))))),
    ),
  ),
)

pub second_eight : (e : Entry) (count : ℕ) → length e.label ≡ 8 → Are8 (second_fields e count)
second_eight e count label = (
  length-column e.kind,
  (
    length-column e.weight,
    (length-column e.colour, (length-column (pos count), (length-column e.form, (refl, (refl, (label, (length-column e.subscript, tt))))))),
  ),
)

module _ (e : Entry) (vs : List Value) (w : IsWritableEntry (e, vs)) (first count : ℕ) (lf : first < 10000000) (lc : count < 10000000)
    (tail1 tail2 : List ℕ) where
  abbrev cs1 : List (List ℕ)
  cs1 = first_fields e first

  abbrev cs2 : List (List ℕ)
  cs2 = second_fields e count

  eight1 : Are8 cs1
  eight1 = first_eight e first w.status

  eight2 : Are8 cs2
  eight2 = second_eight e count w.label

  one : (i : ℕ) (lt : i < 9) (z : ℤ) → get_or cs1 i [] ≡ column z → fits_columns z ≡ true → column_number (take 8 (drop (8 * i) (concat cs1 ++ tail1))) ≡ Some z
  one i lt z is fits = ap column_number (chunk i cs1 tail1 eight1 lt ∙ is) ∙ right_8 z fits

  two : (i : ℕ) (lt : i < 9) (z : ℤ) → get_or cs2 i [] ≡ column z → fits_columns z ≡ true → column_number (take 8 (drop (8 * i) (concat cs2 ++ tail2))) ≡ Some z
  two i lt z is fits = ap column_number (chunk i cs2 tail2 eight2 lt ∙ is) ∙ right_8 z fits

  pub entry_held : IsEntry (concat cs1 ++ tail1) (concat cs2 ++ tail2) (record { entry = e; first = pos first; count = pos count })
  entry_held = record {
    kind = one 0 (lit< tt) e.kind refl w.bounded.kind;
    record_first = one 1 (lit< tt) (pos first) refl (small_column first lf);
    structure = one 2 (lit< tt) e.structure refl w.bounded.structure;
    font = one 3 (lit< tt) e.font refl w.bounded.font;
    level = one 4 (lit< tt) e.level refl w.bounded.level;
    view = one 5 (lit< tt) e.view refl w.bounded.view;
    matrix = one 6 (lit< tt) e.matrix refl w.bounded.matrix;
    display = one 7 (lit< tt) e.display refl w.bounded.display;
    status = sym (ap status_of (chunk 8 cs1 tail1 eight1 (lit< tt)) ∙ digits_status e.status w.bounded.status);
    status_digits = w.bounded.status;
    kind_again = two 0 (lit< tt) e.kind refl w.bounded.kind;
    weight = two 1 (lit< tt) e.weight refl w.bounded.weight;
    colour = two 2 (lit< tt) e.colour refl w.bounded.colour;
    record_count = two 3 (lit< tt) (pos count) refl (small_column count lc);
    form = two 4 (lit< tt) e.form refl w.bounded.form;
    label = sym (chunk 7 cs2 tail2 eight2 (lit< tt));
    subscript = two 8 (lit< tt) e.subscript refl w.bounded.subscript;
  }

-- ---- the whole directory

abbrev pub placed_of : ℕ → List (Entry × List Value) → List (List (List ℕ)) → List Placed
placed_of first [] rs = []
placed_of first (e ∷ es) [] = []
placed_of first (e ∷ es) (r ∷ rs) = record { entry = e.0; first = pos (first_of e.0 first); count = pos (length r) } ∷ placed_of (first + length r) es rs

abbrev pub total : List (List (List ℕ)) → ℕ
total [] = 0
total (r ∷ rs) = length r + total rs

-- an entry with a record has lines
abbrev pub Lined : Entry × List Value → List (List ℕ) → Type 0
Lined e r = has_no_record e.0 ≡ false → 0 < length r

pub small_first : (e : Entry) (first : ℕ) → first < 10000000 → first_of e first < 10000000
small_first e first lt = elim (cases_Bool (has_no_record e)) [
  | inl t ↦ subst (λ (n : ℕ). n < 10000000) (sym (cond-true (has_no_record e) 0 first t)) (lit< tt)
  | inr t ↦ subst (λ (n : ℕ). n < 10000000) (sym (cond-false (has_no_record e) 0 first t)) lt
]

pub entries_are : (n k first : ℕ) (es : List (Entry × List Value)) (rs : List (List (List ℕ))) → AllByRecursion IsWritableEntry es → AllZip Lined es rs
    → 0 < first → first + total rs ≡ n + 1 → n < 9999999
    → AreEntries n (numbered_from 68 k (directory_lines first es rs)) (placed_of first es rs)
entries_are n k first [] [] w l some is small = tt
entries_are n k first [] (r ∷ rs) w l some is small = absurd l
entries_are n k first (e ∷ es) [] w l some is small = absurd l
entries_are n k first (e ∷ es) (r ∷ rs) w l some is small = (
  entry_held e.0 e.1 w.0 (first_of e.0 first) (length r) (small_first e.0 first (omega (arith, is, small))) (omega (arith, is, small))
      (68 ∷ right 7 (decimal k)) (68 ∷ right 7 (decimal (k + 1))),
  range,
  entries_are n (k + 1 + 1) (first + length r) es rs w.1 l.1 (omega arith) (omega (arith, is)) small,
)
  where
    range : has_record n e.0.kind (pos (first_of e.0 first)) (pos (length r)) ≡ true
    range = elim (cases_Bool (has_no_record e.0)) [
      | inl t ↦ or_left (int_eq e.0.kind (pos 0)) _ t
      | inr t ↦
          let f : first_of e.0 first ≡ first = cond-false (has_no_record e.0) 0 first t in
          or_right (int_eq e.0.kind (pos 0)) _
          (and_from _ _ (and_from _ _ (le-leb 1 (first_of e.0 first) (omega (arith, f))) (le-leb 1 (length r) (l.0 t)))
          (le-leb (first_of e.0 first + length r) (n + 1) (omega (arith, f, is))))
    ]
