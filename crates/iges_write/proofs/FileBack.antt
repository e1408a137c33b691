-- The text of a file that can be made is that file.
use Rattle.std.proofs.Common.{◌≡◌, ℕ, suc, ◌+◌, ◌*◌, ◌<◌, ◌≤◌, Bool, true, false, not, ◌&&◌, List, [], ◌∷◌, ◌++◌, length, map, ℤ, pos, negsuc, refl, sym, ap}
use Rattle.std.proofs.Common.{subst, ◌∙◌, arith, length-append, lit<}
use Rattle.std.specs.Prelude.{flat_map, MatchBool, nat_le, ◌==◌}
use Rattle.std.specs.Char.{is_ascii_digit}
use Rattle.std.specs.Fmt.{decimal}
use Rattle.std.specs.List.{AllByRecursion, AllZip, list_all, concat}
use Rattle.std.proofs.lemmas.Bool.{and_parts, and_from, cond-true, cond-false, leb-true, eqb-true, not_from_false, ne_eqb, both_ways}
use Rattle.std.proofs.lemmas.Fmt.{length-decimal-le}
use Rattle.iges_base.specs.declared.TheConstants.{FILE_LIMIT}
use Rattle.iges_fields.specs.declared.value.Value.{Value}
use Rattle.iges_fields.specs.declared.value.Value.TheVariants as value
use Rattle.iges_base.specs.Word.{spaces}
use Rattle.iges_fields.specs.Delims.{Delims, is_delimiter, are_permitted}
use Rattle.iges_base.proofs.InLines.{both_in_line}
use Rattle.iges_base.proofs.Lists.{all_append, list_all-implies}
use Rattle.iges_fields.proofs.Words.{digit_number_byte}
use Rattle.iges_lines.specs.Lines.{SectionLines, joined, lines}
use Rattle.iges_lines.specs.Sectioned.{AreSectioned}
use Rattle.iges_directory.specs.declared.entry.Entry.{Entry}
use Rattle.iges_params.specs.Contents.{Contents}
use Rattle.iges_params.specs.Global.{global_text, GlobalText}
use Rattle.iges_params.specs.IsFile.{IsFile}
use Rattle.iges_write.specs.Parts.{parts}
use Rattle.iges_write.specs.Filled.{IsFilled}
use Rattle.iges_write.specs.Filling.{fill, record_text_lines, text_of}
use Rattle.iges_write.specs.Text.{first_of, counts_columns, right, column, numbered, entry_lines, has_no_record, directory_lines, count_field, global_values}
use Rattle.iges_write.specs.Text.{IsRecordText, text_lines, IsText}
use Rattle.iges_base.specs.InLine.{is_in_line}
use Rattle.iges_fields.specs.InLine.{is_value}
use Rattle.iges_directory.specs.Bounds.{fits_columns}
use Rattle.iges_params.specs.Made.{is_start_line}
use Rattle.iges_write.specs.Writable.{IsWritable, ReadsBack, OneText}
use Rattle.iges_write.proofs.WritableEntry.{IsWritableEntry, writable_entries}
use Rattle.iges_write.proofs.Filling.{IsFilled-fill, fill-is}
use Rattle.iges_write.proofs.Back.{values_spelled, parts_fit}
use Rattle.iges_write.proofs.Columns.{no_LF, IsLine, Are72, numbered-AreNumbered, columns-numbered, text-numbered, length-numbered, lines-text}
use Rattle.iges_write.proofs.Clean.{spaces_no_LF, number_no_LF, in_line_no_LF, decimal_no_LF, right_no_LF, IsClean, value_lines_clean, numbered_line}
use Rattle.iges_write.proofs.Clean.{numbered_lines, clean_wide}
use Rattle.iges_write.proofs.Fields.{first_fields, second_fields, small_column, small_first, terminates, placed_of, total, Lined, entries_are}
use Rattle.iges_write.proofs.GlobalBack.{filled_global}
use Rattle.iges_write.proofs.Widths.{entry_72, owned_72, length-text}
use Rattle.iges_write.proofs.RecordsBack.{kind_value, lines_from, owned, length-owned, IsMade, records_are}

abbrev Lines : Type 0
Lines = List (List ℕ)

-- ---- the directory's lines

concat_clean : (cs : Lines) → AllByRecursion (λ (c : List ℕ). no_LF c ≡ true) cs → no_LF (concat cs) ≡ true
concat_clean [] h = refl
concat_clean (c ∷ cs) h = both_in_line c (concat cs) h.0 (concat_clean cs h.1)

column_clean : (z : ℤ) → fits_columns z ≡ true → no_LF (column z) ≡ true
column_clean (pos m) h =
    let lt : m ≤ 99999999 = leb-true m 99999999 h in
    right_no_LF 8 (decimal m) (length-decimal-le 8 m (lit< tt) (omega (arith, lt)) (omega (arith, lt))) (decimal_no_LF m (omega (arith, lt)))
column_clean (negsuc m) h =
    let lt : m ≤ 9999998 = leb-true m 9999998 (and_parts (nat_le m 9999998) true h).0 in
    let few : length (decimal (suc m)) ≤ 7 = length-decimal-le 7 (suc m) (lit< tt) (omega (arith, lt)) (omega (arith, lt)) in
    right_no_LF 8 (45 ∷ decimal (suc m)) (omega (arith, few)) (decimal_no_LF (suc m) (omega (arith, lt)))

digits_clean : (s : List ℕ) → list_all is_ascii_digit s ≡ true → no_LF s ≡ true
digits_clean s h = number_no_LF s (list_all-implies is_ascii_digit _ digit_number_byte s h)

module _ (e : Entry) (vs : List Value) (w : IsWritableEntry (e, vs)) (first count : ℕ) where
  abbrev long_lines : Are72 (entry_lines e first count)
  long_lines = entry_72 e first count w.status w.label

  clean_lines : first < 10000000 → count < 10000000 → AllByRecursion (IsClean 72) (entry_lines e first count)
  clean_lines lf lc = (
    record {
      long = long_lines.0;
      no_end = concat_clean (first_fields e first) (
        column_clean e.kind w.bounded.kind,
        (
          column_clean (pos first) (small_column first lf),
          (
            column_clean e.structure w.bounded.structure,
            (
              column_clean e.font w.bounded.font,
              (
                column_clean e.level w.bounded.level,
                (
                  column_clean e.view w.bounded.view,
                  (column_clean e.matrix w.bounded.matrix, (column_clean e.display w.bounded.display, (digits_clean e.status w.bounded.status, tt))),
                ),
              ),
            ),
          ),
        ),
      );
    },
    (
      record {
        long = long_lines.1.0;
        no_end = concat_clean (second_fields e count) (
          column_clean e.kind w.bounded.kind,
          (
            column_clean e.weight w.bounded.weight,
            (
              column_clean e.colour w.bounded.colour,
              (
                column_clean (pos count) (small_column count lc),
                (
                  column_clean e.form w.bounded.form,
                  (refl, (refl, (in_line_no_LF e.label w.bounded.label, (column_clean e.subscript w.bounded.subscript, tt)))),
                ),
              ),
            ),
          ),
        );
      },
      tt,
    ),
  )

directory_clean : (first : ℕ) (es : List (Entry × List Value)) (rs : List Lines) → AllByRecursion IsWritableEntry es → first + total rs < 10000000
    → AllByRecursion (IsClean 72) (directory_lines first es rs)
directory_clean first [] rs w lt = tt
directory_clean first (e ∷ es) [] w lt = tt
directory_clean first (e ∷ es) (r ∷ rs) w lt =
    all_append (IsClean 72) (entry_lines e.0 (first_of e.0 first) (length r)) (directory_lines (first + length r) es rs)
    (clean_lines e.0 e.1 w.0 (first_of e.0 first) (length r) (small_first e.0 first (omega (arith, lt))) (omega (arith, lt)))
    (directory_clean (first + length r) es rs w.1 (omega (arith, lt)))

-- ---- the records' lines

owned_clean : (i : ℕ) (r : Lines) → AllByRecursion (IsClean 64) r → 2 * i + 1 < 10000000 → AllByRecursion (IsClean 72) (owned i r)
owned_clean i [] h lt = tt
owned_clean i (l ∷ r) h lt = (
  record {
    long = (owned_72 i (l ∷ []) (h.0.long, tt)).0;
    no_end = both_in_line l (32 ∷ right 7 (decimal (2 * i + 1))) h.0.no_end
        (right_no_LF 7 (decimal (2 * i + 1)) (length-decimal-le 7 (2 * i + 1) (lit< tt) lt (omega (arith, lt)))
        (decimal_no_LF (2 * i + 1) (omega (arith, lt))));
  },
  owned_clean i r h.1 lt,
)

params_clean : (d : Delims) (i : ℕ) (es : List (Entry × List Value)) (rs : List Lines) → AllZip (IsMade d) es rs → 2 * (i + length es) < 10000000
    → AllByRecursion (IsClean 72) (lines_from i rs)
params_clean d i [] [] m lt = tt
params_clean d i [] (r ∷ rs) m lt = absurd m
params_clean d i (e ∷ es) [] m lt = absurd m
params_clean d i (e ∷ es) (r ∷ rs) m lt =
    all_append (IsClean 72) (owned i r) (lines_from (i + 1) rs) (owned_clean i r m.0.clean (omega (arith, lt)))
    (params_clean d (i + 1) es rs m.1 (omega (arith, lt)))

length-lines_from : (i : ℕ) (rs : List Lines) → length (lines_from i rs) ≡ total rs
length-lines_from i [] = refl
length-lines_from i (r ∷ rs) = omega (arith, length-append (owned i r) (lines_from (i + 1) rs), length-owned i r, length-lines_from (i + 1) rs)

-- ---- what is made of the entries

made_of : (d : Delims) → are_permitted d ≡ true → (es : List (Entry × List Value)) (rs : List Lines) → AllByRecursion IsWritableEntry es
    → AllZip (IsRecordText d) es rs → AllZip (IsMade d) es rs
made_of d ok [] [] w t = tt
made_of d ok [] (r ∷ rs) w t = absurd t
made_of d ok (e ∷ es) [] w t = absurd t
made_of d ok (e ∷ es) (r ∷ rs) w t = (record { text = t.0; clean = clean_r (has_no_record e.0) refl }, made_of d ok es rs w.1 t.1)
  where
    clean_r : (b : Bool) → has_no_record e.0 ≡ b → AllByRecursion (IsClean 64) r
    clean_r true h = let none : r ≡ [] = subst (λ (b : Bool). MatchBool b (r ≡ []) (IsFilled 64 (parts 64 d (value.Int e.0.kind ∷ e.1)) r)) h t.0 in subst
        (AllByRecursion (IsClean 64)) (sym none) tt
    clean_r false h =
        value_lines_clean 64 d (value.Int e.0.kind ∷ e.1) r ok (and_from _ _ (kind_value e.0.kind w.0.bounded.kind) w.0.values)
        (subst (λ (b : Bool). MatchBool b (r ≡ []) (IsFilled 64 (parts 64 d (value.Int e.0.kind ∷ e.1)) r)) h t.0)

some_filled : (n : ℕ) (ps ls : Lines) → IsFilled n ps ls → 0 < length ls
some_filled n ps [] f = absurd f
some_filled n ps (l ∷ ls) f = omega arith

lined_of : (d : Delims) (es : List (Entry × List Value)) (rs : List Lines) → AllZip (IsRecordText d) es rs → AllZip Lined es rs
lined_of d [] [] t = tt
lined_of d [] (r ∷ rs) t = absurd t
lined_of d (e ∷ es) [] t = absurd t
lined_of d (e ∷ es) (r ∷ rs) t = (
  (λ h. some_filled 64 (parts 64 d (value.Int e.0.kind ∷ e.1)) r
      (subst (λ (b : Bool). MatchBool b (r ≡ []) (IsFilled 64 (parts 64 d (value.Int e.0.kind ∷ e.1)) r)) h t.0)),
  lined_of d es rs t.1,
)

start_clean : (ls : Lines) → list_all is_start_line ls ≡ true → AllByRecursion (IsClean 72) ls
start_clean [] h = tt
start_clean (l ∷ ls) h =
    let p = and_parts (is_start_line l) (list_all is_start_line ls) h in
    let q = and_parts (length l == 72) (is_in_line l) p.0 in
    (record { long = eqb-true _ _ q.0; no_end = in_line_no_LF l q.1 }, start_clean ls p.1)

delimiter_value : (b : ℕ) → is_delimiter b ≡ true → is_value (value.Text (b ∷ [])) ≡ true
delimiter_value b h =
    and_from _ _ (and_from (not (b == 10)) true
    (not_from_false _ (ne_eqb b 10 (λ is. both_ways (is_delimiter 10) refl (subst (λ (x : ℕ). is_delimiter x ≡ true) is h)))) refl) refl

-- ---- the file

module _ (f : Contents) (w : IsWritable f) (bytes : List ℕ) (t : IsText f bytes) (limit : length bytes ≤ FILE_LIMIT) where
  abbrev d : Delims
  d = f.global.delims

  abbrev D : Lines
  D = directory_lines 1 f.entries t.records

  abbrev P : Lines
  P = lines_from 0 t.records

  abbrev counts : List ℕ
  counts = counts_columns (length f.start) (length t.global) (length D) (length P)

  abbrev secs : SectionLines
  secs = record { start = numbered 83 f.start; global = numbered 71 t.global; directory = numbered 68 D; param = numbered 80 P }

  abbrev last : List ℕ
  last = counts ++ 84 ∷ right 7 (decimal 1)

  whole_lines : text_lines f t.global t.records ≡ joined secs ++ last ∷ []
  whole_lines = refl

  entries_ok : AllByRecursion IsWritableEntry f.entries
  entries_ok = writable_entries f.entries w.made.entries w.held

  made : AllZip (IsMade d) f.entries t.records
  made = made_of d w.delims f.entries t.records entries_ok t.records_are

  start_72 : AllByRecursion (IsClean 72) f.start
  start_72 = start_clean f.start w.made.start

  delims_ok : (is_delimiter d.param ≡ true) × (is_delimiter d.end ≡ true)
  delims_ok = and_parts (is_delimiter d.param) (is_delimiter d.end) (and_parts (is_delimiter d.param && is_delimiter d.end) (not (d.param == d.end)) w.delims).0

  global_ok : AllByRecursion (IsClean 72) t.global
  global_ok = value_lines_clean 72 d (global_values f.global) t.global w.delims
      (and_from _ _ (delimiter_value d.param delims_ok.0) (and_from _ _ (delimiter_value d.end delims_ok.1) w.global_values)) t.global_is

  -- the sizes
  sizes : length bytes ≡ 81 * length f.start + 81 * length t.global + 81 * length D + 81 * length P + 81
  sizes = length-text f bytes t (clean_wide 72 f.start start_72) w.held

  few : (length f.start < 9999999) × (length t.global < 9999999) × (length D < 9999999) × (length P < 9999999)
  few = let big : length bytes ≤ 164000000 = limit
      in (omega (arith, sizes, big), omega (arith, sizes, big), omega (arith, sizes, big), omega (arith, sizes, big))

  entries_few : 2 * (0 + length f.entries) < 10000000
  entries_few = omega (arith, w.made.limits.entries)

  D_clean : AllByRecursion (IsClean 72) D
  D_clean = directory_clean 1 f.entries t.records entries_ok (omega (arith, few.3, length-lines_from 0 t.records))

  P_clean : AllByRecursion (IsClean 72) P
  P_clean = params_clean d 0 f.entries t.records made entries_few

  are_lines : AllByRecursion IsLine (joined secs ++ last ∷ [])
  are_lines =
      all_append IsLine (joined secs) (last ∷ [])
      (all_append IsLine (secs.start ++ secs.global ++ secs.directory) secs.param
      (all_append IsLine (secs.start ++ secs.global) secs.directory
      (all_append IsLine secs.start secs.global (numbered_lines 83 f.start refl start_72 (omega (arith, few.0)))
      (numbered_lines 71 t.global refl global_ok (omega (arith, few.1))))
      (numbered_lines 68 D refl D_clean (omega (arith, few.2))))
      (numbered_lines 80 P refl P_clean (omega (arith, few.3))))
      (numbered_line 84 1 counts counts_clean refl (lit< tt), tt)
    where
      count_clean : (x n : ℕ) → not (x == 10) ≡ true → n < 9999999 → no_LF (count_field x n) ≡ true
      count_clean x n e lt = and_from (not (x == 10)) (no_LF (right 7 (decimal n))) e
          (right_no_LF 7 (decimal n) (length-decimal-le 7 n (lit< tt) (omega (arith, lt)) (omega (arith, lt))) (decimal_no_LF n (omega (arith, lt))))

      counts_clean : no_LF counts ≡ true
      counts_clean =
          both_in_line (count_field 83 (length f.start) ++ count_field 71 (length t.global) ++ count_field 68 (length D) ++ count_field 80 (length P))
          (spaces 40)
          (both_in_line (count_field 83 (length f.start) ++ count_field 71 (length t.global) ++ count_field 68 (length D)) (count_field 80 (length P))
          (both_in_line (count_field 83 (length f.start) ++ count_field 71 (length t.global)) (count_field 68 (length D))
          (both_in_line (count_field 83 (length f.start)) (count_field 71 (length t.global)) (count_clean 83 (length f.start) refl few.0)
          (count_clean 71 (length t.global) refl few.1))
          (count_clean 68 (length D) refl few.2))
          (count_clean 80 (length P) refl few.3))
          (spaces_no_LF 40)

  sectioned : AreSectioned (lines bytes) secs
  sectioned = record {
    last = last;
    after = [];
    whole = ap lines t.bytes_are ∙ ap (λ (ls : Lines). lines (flat_map (λ (l : List ℕ). l ++ 10 ∷ []) ls)) whole_lines
        ∙ lines-text (joined secs ++ last ∷ []) are_lines;
    some_start = omega (arith, length-numbered 83 f.start, w.made.some_start);
    some_global = omega (arith, length-numbered 71 t.global, some_filled 72 (parts 72 d (global_values f.global)) t.global t.global_is);
    start = numbered-AreNumbered 83 f.start (clean_wide 72 f.start start_72) (omega (arith, few.0));
    global = numbered-AreNumbered 71 t.global (clean_wide 72 t.global global_ok) (omega (arith, few.1));
    directory = numbered-AreNumbered 68 D (clean_wide 72 D D_clean) (omega (arith, few.2));
    param = numbered-AreNumbered 80 P (clean_wide 72 P P_clean) (omega (arith, few.3));
    terminate = terminates secs (length f.start) (length t.global) (length D) (length P) (length-numbered 83 f.start) (length-numbered 71 t.global)
        (length-numbered 68 D) (length-numbered 80 P)
        (omega (arith, few.0)) (omega (arith, few.1)) (omega (arith, few.2)) (omega (arith, few.3));
    blank = refl;
  }

  global_back : GlobalText (global_text secs) f.global
  global_back =
      let lines_are : t.global ≡ fill 72 [] (parts 72 d (global_values f.global)) = IsFilled-fill 72 (parts 72 d (global_values f.global)) t.global
      (parts_fit 72 d (global_values f.global) (lit< tt)) t.global_is in
      subst (λ (x : List ℕ). GlobalText x f.global) (sym (text-numbered 71 t.global (clean_wide 72 t.global global_ok) ∙ ap concat lines_are))
      (filled_global f.global w.delims (values_spelled f.global.values w.global_values) w.made.kinds)

  pub file_back : IsFile bytes f
  file_back = record {
    sections = secs;
    placed = placed_of 1 f.entries t.records;
    sectioned = sectioned;
    start = sym (columns-numbered 83 f.start (clean_wide 72 f.start start_72));
    global = global_back;
    directory = entries_are (length (numbered 80 P)) 1 1 f.entries t.records entries_ok (lined_of d f.entries t.records t.records_are) (lit< tt)
        (omega (arith, length-numbered 80 P, length-lines_from 0 t.records)) (omega (arith, length-numbered 80 P, few.3));
    records = records_are d 0 1 [] f.entries t.records entries_ok made (omega arith) entries_few;
  }

pub reads_back : ReadsBack
reads_back f bytes w t limit = file_back f w bytes t limit

-- ---- the text is one, and there is one

all_records : (d : Delims) (es : List (Entry × List Value)) (rs : List Lines) → AllZip (IsRecordText d) es rs → rs ≡ map (record_text_lines d) es
all_records d [] [] h = refl
all_records d [] (r ∷ rs) h = absurd h
all_records d (e ∷ es) [] h = absurd h
all_records d (e ∷ es) (r ∷ rs) h = ap (λ (x : Lines). x ∷ rs) (by_type (has_no_record e.0) refl) ∙ ap (λ (xs : List Lines). record_text_lines d e ∷ xs)
    (all_records d es rs h.1)
  where
    by_type : (b : Bool) → has_no_record e.0 ≡ b → r ≡ record_text_lines d e
    by_type true t = subst (λ (b : Bool). MatchBool b (r ≡ []) (IsFilled 64 (parts 64 d (value.Int e.0.kind ∷ e.1)) r)) t h.0
        ∙ sym (cond-true (has_no_record e.0) _ _ t)
    by_type false t =
        IsFilled-fill 64 (parts 64 d (value.Int e.0.kind ∷ e.1)) r (parts_fit 64 d (value.Int e.0.kind ∷ e.1) (lit< tt))
        (subst (λ (b : Bool). MatchBool b (r ≡ []) (IsFilled 64 (parts 64 d (value.Int e.0.kind ∷ e.1)) r)) t h.0)
        ∙ sym (cond-false (has_no_record e.0) _ _ t)

records_all : (d : Delims) (es : List (Entry × List Value)) → AllZip (IsRecordText d) es (map (record_text_lines d) es)
records_all d [] = tt
records_all d (e ∷ es) = (by_type (has_no_record e.0) refl, records_all d es)
  where
    by_type : (b : Bool) → has_no_record e.0 ≡ b → IsRecordText d e (record_text_lines d e)
    by_type true t = subst (λ (b : Bool). MatchBool b (record_text_lines d e ≡ [])
        (IsFilled 64 (parts 64 d (value.Int e.0.kind ∷ e.1)) (record_text_lines d e))) (sym t) (cond-true (has_no_record e.0) _ _ t)
    by_type false t =
        subst (λ (b : Bool). MatchBool b (record_text_lines d e ≡ []) (IsFilled 64 (parts 64 d (value.Int e.0.kind ∷ e.1)) (record_text_lines d e))) (sym t)
        (subst (IsFilled 64 (parts 64 d (value.Int e.0.kind ∷ e.1))) (sym (cond-false (has_no_record e.0) _ _ t))
        (fill-is 64 (parts 64 d (value.Int e.0.kind ∷ e.1)) (parts_fit 64 d (value.Int e.0.kind ∷ e.1) (lit< tt))))

pub IsText-text_of : (f : Contents) (bytes : List ℕ) → IsText f bytes → bytes ≡ text_of f
IsText-text_of f bytes t =
    let g = IsFilled-fill 72 (parts 72 f.global.delims (global_values f.global)) t.global (parts_fit 72 f.global.delims (global_values f.global) (lit< tt))
    t.global_is in
    t.bytes_are
    ∙ ap (λ (x : Lines). flat_map (λ (l : List ℕ). l ++ 10 ∷ []) (text_lines f x t.records)) g
    ∙ ap (λ (x : List Lines). flat_map (λ (l : List ℕ). l ++ 10 ∷ []) (text_lines f (fill 72 [] (parts 72 f.global.delims (global_values f.global))) x))
    (all_records f.global.delims f.entries t.records t.records_are)

pub text_of-IsText : (f : Contents) → IsText f (text_of f)
text_of-IsText f = record {
  global = fill 72 [] (parts 72 f.global.delims (global_values f.global));
  records = map (record_text_lines f.global.delims) f.entries;
  global_is = fill-is 72 (parts 72 f.global.delims (global_values f.global)) (parts_fit 72 f.global.delims (global_values f.global) (lit< tt));
  records_are = records_all f.global.delims f.entries;
  bytes_are = refl;
}

pub one_text : OneText
one_text f = (text_of f, text_of-IsText f, λ other t. IsText-text_of f other t)
