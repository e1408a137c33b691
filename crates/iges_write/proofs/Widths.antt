-- How wide the lines of a text are, and how long it is.
use Rattle.std.proofs.Common.{◌≡◌, ℕ, ◌+◌, ◌*◌, Bool, true, false, List, [], ◌∷◌, ◌++◌, length, refl, sym, ap, subst, arith, length-append}
use Rattle.std.specs.Prelude.{flat_map, MatchBool}
use Rattle.std.specs.Fmt.{decimal}
use Rattle.std.specs.List.{AllByRecursion, AllZip, concat}
use Rattle.iges_fields.specs.declared.value.Value.{Value}
use Rattle.iges_fields.specs.declared.value.Value.TheVariants as value
use Rattle.iges_fields.specs.Delims.{Delims}
use Rattle.iges_base.proofs.Lists.{all_append}
use Rattle.iges_directory.specs.declared.entry.Entry.{Entry}
use Rattle.iges_params.specs.Contents.{Contents}
use Rattle.iges_write.specs.Parts.{parts}
use Rattle.iges_write.specs.Filled.{IsFilled}
use Rattle.iges_write.specs.Text.{right, numbered, entry_lines, first_of, has_no_record, directory_lines, counts_columns, global_values, IsRecordText, IsText}
use Rattle.iges_write.specs.Writable.{IsHeld}
use Rattle.iges_write.proofs.Columns.{AreWide, Are72, length-right, numbered_from}
use Rattle.iges_write.proofs.Clean.{filled_wide}
use Rattle.iges_write.proofs.Fields.{Are8, first_fields, second_fields, first_eight, second_eight, length-counts_columns}
use Rattle.iges_write.proofs.RecordsBack.{owned, lines_from}

abbrev Lines : Type 0
Lines = List (List ℕ)

-- ---- the bytes of lines, each with its end

abbrev pub size : Lines → ℕ
size ls = length (flat_map (λ (l : List ℕ). l ++ 10 ∷ []) ls)

pub size-append : (xs ys : Lines) → size (xs ++ ys) ≡ size xs + size ys
size-append [] ys = omega arith
size-append (x ∷ xs) ys =
    let ended = x ++ 10 ∷ [] in
    omega (
      arith,
      size-append xs ys,
      length-append ended (flat_map (λ (l : List ℕ). l ++ 10 ∷ []) (xs ++ ys)),
      length-append ended
          (flat_map (λ (l : List ℕ). l ++ 10 ∷ []) xs),
    )

pub size-numbered : (section k : ℕ) (ls : Lines) → Are72 ls → size (numbered_from section k ls) ≡ 81 * length ls
size-numbered section k [] h = refl
size-numbered section k (l ∷ ls) h =
    let line = l ++ section ∷ right 7 (decimal k) in
    omega (
      arith,
      size-numbered section (k + 1) ls h.1,
      length-append (line ++ 10 ∷ [])
          (flat_map (λ (x : List ℕ). x ++ 10 ∷ []) (numbered_from section (k + 1) ls)),
      length-append line (10 ∷ []),
      length-append l
          (section ∷ right 7 (decimal k)),
      length-right 7 (decimal k),
      h.0,
    )

-- ---- the directory

pub length-concat8 : (cs : Lines) → Are8 cs → length (concat cs) ≡ 8 * length cs
length-concat8 [] h = refl
length-concat8 (c ∷ cs) h = omega (arith, length-concat8 cs h.1, length-append c (concat cs), h.0)

pub entry_72 : (e : Entry) (first count : ℕ) → length e.status ≡ 8 → length e.label ≡ 8 → Are72 (entry_lines e first count)
entry_72 e first count status label =
    (length-concat8 (first_fields e first) (first_eight e first status), (length-concat8 (second_fields e count) (second_eight e count label), tt))

pub directory_72 : (first : ℕ) (es : List (Entry × List Value)) (rs : List Lines) → AllByRecursion IsHeld es → Are72 (directory_lines first es rs)
directory_72 first [] rs held = tt
directory_72 first (e ∷ es) [] held = tt
directory_72 first (e ∷ es) (r ∷ rs) held =
    all_append (λ (l : List ℕ). length l ≡ 72) (entry_lines e.0 (first_of e.0 first) (length r)) (directory_lines (first + length r) es rs)
    (entry_72 e.0 (first_of e.0 first) (length r) held.0.status held.0.label) (directory_72 (first + length r) es rs held.1)

-- ---- the records

pub record_64 : (d : Delims) (e : Entry × List Value) (r : Lines) → IsRecordText d e r → AreWide 64 r
record_64 d e r t = by_type (has_no_record e.0) refl
  where
    by_type : (b : Bool) → has_no_record e.0 ≡ b → AreWide 64 r
    by_type true h = let none : r ≡ [] = subst (λ (b : Bool). MatchBool b (r ≡ []) (IsFilled 64 (parts 64 d (value.Int e.0.kind ∷ e.1)) r)) h t in subst
        (AreWide 64) (sym none) tt
    by_type false h = filled_wide 64 (parts 64 d (value.Int e.0.kind ∷ e.1)) r
        (subst (λ (b : Bool). MatchBool b (r ≡ []) (IsFilled 64 (parts 64 d (value.Int e.0.kind ∷ e.1)) r)) h t)

-- with the number of its entry
pub owned_72 : (i : ℕ) (r : Lines) → AreWide 64 r → Are72 (owned i r)
owned_72 i [] h = tt
owned_72 i (l ∷ r) h = (omega (arith, length-append l (32 ∷ right 7 (decimal (2 * i + 1))), length-right 7 (decimal (2 * i + 1)), h.0), owned_72 i r h.1)

pub params_72 : (d : Delims) (i : ℕ) (es : List (Entry × List Value)) (rs : List Lines) → AllZip (IsRecordText d) es rs → Are72 (lines_from i rs)
params_72 d i [] [] t = tt
params_72 d i [] (r ∷ rs) t = absurd t
params_72 d i (e ∷ es) [] t = absurd t
params_72 d i (e ∷ es) (r ∷ rs) t =
    all_append (λ (l : List ℕ). length l ≡ 72) (owned i r) (lines_from (i + 1) rs) (owned_72 i r (record_64 d e r t.0)) (params_72 d (i + 1) es rs t.1)

-- ---- the text

-- 81 bytes for each line
module _ (f : Contents) (text : List ℕ) (t : IsText f text) where
  abbrev d : Delims
  d = f.global.delims

  abbrev D : Lines
  D = directory_lines 1 f.entries t.records

  abbrev P : Lines
  P = lines_from 0 t.records

  abbrev counts : List ℕ
  counts = counts_columns (length f.start) (length t.global) (length D) (length P)

  pub length-text : Are72 f.start → AllByRecursion IsHeld f.entries → length text ≡ 81 * length f.start + 81 * length t.global + 81 * length D + 81 * length P
      + 81
  length-text start held =
      let s = numbered 83 f.start in
      let g = numbered 71 t.global in
      let e = numbered 68 D in
      let p = numbered 80 P in
      let l = numbered 84 (counts ∷ []) in
      let all : length text ≡ size (s ++ g ++ e ++ p ++ l) = ap (λ xs. length xs) t.bytes_are in
      omega (
        arith,
        all,
        size-numbered 83 1 f.start start,
        size-numbered 71 1 t.global (filled_wide 72 (parts 72 d (global_values f.global)) t.global t.global_is),
        size-numbered 68 1 D (directory_72 1 f.entries t.records held),
        size-numbered 80 1 P (params_72 d 0 f.entries t.records t.records_are),
        size-numbered 84 1 (counts ∷ []) (length-counts_columns (length f.start) (length t.global) (length D) (length P), tt),
        size-append (s ++ g ++ e ++ p) l,
        size-append (s ++ g ++ e) p,
        size-append (s ++ g) e,
        size-append s g,
      )
