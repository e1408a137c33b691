-- The records of a text have their values.
use Rattle.std.proofs.Common.{◌≡◌, ℕ, suc, ◌+◌, ◌-◌, ◌*◌, ◌<◌, Bool, true, false, List, [], ◌∷◌, ◌++◌, length, take, drop, map, ℤ, pos, negsuc, refl, sym, ap}
use Rattle.std.proofs.Common.{subst, ◌∙◌, append_assoc, arith, length-append, lit<}
use Rattle.std.specs.Prelude.{nat_le, flat_map, MatchBool, slice_range}
use Rattle.std.specs.Fmt.{decimal}
use Rattle.std.specs.List.{AllByRecursion, AllZip, enumerate_from, list_all, concat}
use Rattle.std.proofs.lemmas.Bool.{and_parts, and_from, cond-false, le-leb, leb-true}
use Rattle.std.proofs.lemmas.List.{take_at, drop_at}
use Rattle.iges_fields.specs.declared.value.Value.{Value}
use Rattle.iges_fields.specs.declared.value.Value.TheVariants as value
use Rattle.iges_fields.specs.Delims.{Delims}
use Rattle.iges_fields.specs.FreeText.{FreeText, fits_64_bits}
use Rattle.iges_base.specs.Word.{column_number}
use Rattle.iges_lines.specs.Lines.{columns}
use Rattle.iges_lines.proofs.Walk.{is-has_number}
use Rattle.iges_directory.specs.declared.entry.Entry.{Entry}
use Rattle.iges_params.specs.Records.{record_lines, points_back, IsRecord, HasRecord, AreRecords}
use Rattle.iges_write.specs.Parts.{parts}
use Rattle.iges_write.specs.Filled.{IsFilled}
use Rattle.iges_write.specs.Text.{first_of, right, has_no_record, IsRecordText}
use Rattle.iges_directory.specs.Bounds.{fits_columns}
use Rattle.iges_write.proofs.WritableEntry.{IsWritableEntry}
use Rattle.iges_write.proofs.Back.{AreSpelled, values_spelled, parts_fit, IsFilled-FreeText}
use Rattle.iges_write.proofs.Columns.{length-right, right_7, numbered_from, length-numbered_from}
use Rattle.iges_write.proofs.Clean.{IsClean}
use Rattle.iges_write.proofs.Fields.{placed_of}

abbrev Lines : Type 0
Lines = List (List ℕ)

-- the lines of the entry at a place, with its number behind them
abbrev pub owned : ℕ → Lines → Lines
owned i ls = map (λ (l : List ℕ). l ++ 32 ∷ right 7 (decimal (2 * i + 1))) ls

abbrev pub lines_from : ℕ → List Lines → Lines
lines_from i rs = flat_map (λ (r : ℕ × Lines). map (λ (l : List ℕ). l ++ 32 ∷ right 7 (decimal (2 * r.0 + 1))) r.1) (enumerate_from i rs)

numbered-append : (k : ℕ) (xs ys : Lines) → numbered_from 80 k (xs ++ ys) ≡ numbered_from 80 k xs ++ numbered_from 80 (k + length xs) ys
numbered-append k [] ys = ap (λ (n : ℕ). numbered_from 80 n ys) zero_behind
  where
    zero_behind : k ≡ k + 0
    zero_behind = omega arith
numbered-append k (x ∷ xs) ys =
    let e : k + 1 + length xs ≡ k + suc (length xs) = omega arith in
    ap (λ (t : Lines). (x ++ 80 ∷ right 7 (decimal k)) ∷ t)
    (numbered-append (k + 1) xs ys ∙ ap (λ (n : ℕ). numbered_from 80 (k + 1) xs ++ numbered_from 80 n ys) e)

pub length-owned : (i : ℕ) (ls : Lines) → length (owned i ls) ≡ length ls
length-owned i [] = refl
length-owned i (l ∷ ls) = ap suc (length-owned i ls)

-- each line points back, and its columns 1 to 64 are the record's
mine_points : (i k : ℕ) (ls : Lines) → AllByRecursion (IsClean 64) ls → 2 * i + 1 < 10000000
    → list_all (points_back (2 * i + 1)) (numbered_from 80 k (owned i ls)) ≡ true
mine_points i k [] h lt = refl
mine_points i k (l ∷ ls) h lt =
    let r = right 7 (decimal (2 * i + 1)) in
    let tail = 80 ∷ right 7 (decimal k) in
    let front : drop 65 ((l ++ 32 ∷ r) ++ tail) ≡ r ++ tail =
    ap (drop 65) (append_assoc l (32 ∷ r) tail ∙ sym (append_assoc l (32 ∷ []) (r ++ tail)))
    ∙ drop_at (l ++ 32 ∷ []) (r ++ tail) 65 (omega (arith, length-append l (32 ∷ []), h.0.long)) in
    let field : columns 66 72 ((l ++ 32 ∷ r) ++ tail) ≡ r = ap (take 7) front ∙ take_at r tail 7 (length-right 7 (decimal (2 * i + 1))) in
    and_from _ _ (is-has_number (columns 66 72 ((l ++ 32 ∷ r) ++ tail)) (2 * i + 1) (ap column_number field ∙ right_7 (2 * i + 1) lt))
    (mine_points i (k + 1) ls h.1 lt)

mine_text : (i k : ℕ) (ls : Lines) → AllByRecursion (IsClean 64) ls → flat_map (columns 1 64) (numbered_from 80 k (owned i ls)) ≡ concat ls
mine_text i k [] h = refl
mine_text i k (l ∷ ls) h =
    let r = 32 ∷ right 7 (decimal (2 * i + 1)) in
    let tail = 80 ∷ right 7 (decimal k) in
    ap (λ (x : List ℕ). x ++ flat_map (columns 1 64) (numbered_from 80 (k + 1) (owned i ls)))
    (ap (take 64) (append_assoc l r tail) ∙ take_at l (r ++ tail) 64 h.0.long)
    ∙ ap (λ (x : List ℕ). l ++ x) (mine_text i (k + 1) ls h.1)

-- the record's lines among all
mine_lines : (before mine after : Lines) (first count : ℕ) → length before + 1 ≡ first → length mine ≡ count
    → slice_range (before ++ (mine ++ after)) (first - 1) (first - 1 + count) ≡ mine
mine_lines before mine after first count b c =
    let at : first - 1 ≡ length before = omega (arith, b) in
    let size : first - 1 + count - (first - 1) ≡ length mine = omega (arith, c) in
    ap (λ (n : ℕ). take n (drop (first - 1) (before ++ (mine ++ after)))) size
    ∙ ap (take (length mine)) (ap (λ (n : ℕ). drop n (before ++ (mine ++ after))) at ∙ drop_at before (mine ++ after) (length before) refl)
    ∙ take_at mine after (length mine) refl

-- what an entry's lines are
pub record IsMade (d : Delims) (e : Entry × List Value) (r : Lines) : Type 0 where
  pub text : IsRecordText d e r
  pub clean : AllByRecursion (IsClean 64) r

pub kind_value : (z : ℤ) → fits_columns z ≡ true → fits_64_bits z ≡ true
kind_value (pos m) h = le-leb m 9223372036854775807 (omega (arith, leb-true m 99999999 h))
kind_value (negsuc m) h =
    and_from (nat_le m 9223372036854775807) true (le-leb m 9223372036854775807 (omega (arith, leb-true m 9999998 (and_parts (nat_le m 9999998) true h).0))) refl

module _ (d : Delims) where
  one_record : (i first : ℕ) (before : Lines) (e : Entry × List Value) (r rest : Lines) → IsWritableEntry e → IsMade d e r → length before + 1 ≡ first
      → 2 * i + 1 < 10000000
      → HasRecord (before ++ (numbered_from 80 first (owned i r) ++ rest)) d (2 * i + 1)
      (record { entry = e.0; first = pos (first_of e.0 first); count = pos (length r) }) e.1
  one_record i first before e r rest w m is lt = by_type (has_no_record e.0) refl
    where
      by_type : (b : Bool) → has_no_record e.0 ≡ b
          → HasRecord (before ++ (numbered_from 80 first (owned i r) ++ rest)) d (2 * i + 1)
          (record { entry = e.0; first = pos (first_of e.0 first); count = pos (length r) }) e.1
      by_type true t = subst (λ (b : Bool). MatchBool b (e.1 ≡ [])
          (IsRecord (before ++ (numbered_from 80 first (owned i r) ++ rest)) d (2 * i + 1)
          (record { entry = e.0; first = pos (first_of e.0 first); count = pos (length r) }) e.1)) (sym t) (w.unused t)
      by_type false t =
          let f : first_of e.0 first ≡ first = cond-false (has_no_record e.0) 0 first t in
          let lines : record_lines (before ++ (numbered_from 80 first (owned i r) ++ rest))
          (record { entry = e.0; first = pos (first_of e.0 first); count = pos (length r) }) ≡ numbered_from 80 first (owned i r) =
          ap (λ (n : ℕ). slice_range (before ++ (numbered_from 80 first (owned i r) ++ rest)) (n - 1) (n - 1 + length r)) f
          ∙ mine_lines before (numbered_from 80 first (owned i r)) rest first (length r) is (length-numbered_from 80 first (owned i r) ∙ length-owned i r) in
          let filled : IsFilled 64 (parts 64 d (value.Int e.0.kind ∷ e.1)) r =
          subst (λ (b : Bool). MatchBool b (r ≡ []) (IsFilled 64 (parts 64 d (value.Int e.0.kind ∷ e.1)) r)) t m.text in
          let spelled : AreSpelled (value.Int e.0.kind ∷ e.1) =
          values_spelled (value.Int e.0.kind ∷ e.1) (and_from _ _ (kind_value e.0.kind w.bounded.kind) w.values) in
          let free = IsFilled-FreeText 64 d (value.Int e.0.kind) e.1 r (lit< tt) spelled (parts_fit 64 d (value.Int e.0.kind ∷ e.1) (lit< tt)) filled in
          subst (λ (b : Bool). MatchBool b (e.1 ≡ [])
          (IsRecord (before ++ (numbered_from 80 first (owned i r) ++ rest)) d (2 * i + 1)
          (record { entry = e.0; first = pos (first_of e.0 first); count = pos (length r) }) e.1)) (sym t)
          (record {
            pointers = ap (list_all (points_back (2 * i + 1))) lines ∙ mine_points i first r m.clean lt;
            used = free.0;
            text = subst (λ (x : List ℕ). FreeText d x (value.Int e.0.kind ∷ e.1) free.0)
                (sym (ap (flat_map (columns 1 64)) lines ∙ mine_text i first r m.clean)) free.1;
          })

  pub records_are : (i first : ℕ) (before : Lines) (es : List (Entry × List Value)) (rs : List Lines) → AllByRecursion IsWritableEntry es
      → AllZip (IsMade d) es rs → length before + 1 ≡ first → 2 * (i + length es) < 10000000
      → AreRecords (before ++ numbered_from 80 first (lines_from i rs)) d (2 * i + 1) (placed_of first es rs) es
  records_are i first before [] [] w m is lt = tt
  records_are i first before [] (r ∷ rs) w m is lt = absurd m
  records_are i first before (e ∷ es) [] w m is lt = absurd m
  records_are i first before (e ∷ es) (r ∷ rs) w m is lt =
      let mine = numbered_from 80 first (owned i r) in
      let more = numbered_from 80 (first + length r) (lines_from (i + 1) rs) in
      let split : before ++ numbered_from 80 first (owned i r ++ lines_from (i + 1) rs) ≡ before ++ (mine ++ more) =
      ap (λ (x : Lines). before ++ x)
      (numbered-append first (owned i r) (lines_from (i + 1) rs) ∙ ap (λ (n : ℕ). mine ++ numbered_from 80 (first + n) (lines_from (i + 1) rs))
      (length-owned i r)) in
      let first_record = one_record i first before e r more w.0 m.0 is (omega (arith, lt)) in
      let others = records_are (i + 1) (first + length r) (before ++ mine) es rs w.1 m.1
      (omega (arith, is, length-append before mine, length-numbered_from 80 first (owned i r), length-owned i r)) (omega (arith, lt)) in
      subst (λ (x : Lines). AreRecords x d (2 * i + 1) (placed_of first (e ∷ es) (r ∷ rs)) (e ∷ es)) (sym split) (
        refl,
        first_record,
        subst (λ (n : ℕ). AreRecords (before ++ (mine ++ more)) d n (placed_of (first + length r) es rs) es) (omega arith)
            (subst (λ (x : Lines). AreRecords x d (2 * (i + 1) + 1) (placed_of (first + length r) es rs) es) (append_assoc before mine more) others),
      )
