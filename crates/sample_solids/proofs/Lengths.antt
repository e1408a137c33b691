-- How long a canonical text is.
use Rattle.std.specs.Prelude.{◌≡◌, ℕ, ◌+◌, ◌*◌, ◌≤◌, List, [], ◌∷◌, length}
use Rattle.std.specs.List.{AllByRecursion, AllZip}
use Rattle.std.proofs.Common.{arith, length-append, lit<}
use Rattle.iges_fields.specs.declared.value.Value.{Value}
use Rattle.iges_fields.specs.declared.value.Value.TheVariants as value
use Rattle.iges_fields.specs.Delims.{Delims}
use Rattle.iges_directory.specs.declared.entry.Entry.{Entry}
use Rattle.iges_params.specs.Contents.{Contents}
use Rattle.iges_write.specs.Parts.{parts}
use Rattle.iges_write.specs.Text.{entry_lines, first_of, directory_lines, global_values, IsRecordText, IsText}
use Rattle.iges_write.specs.Writable.{IsHeld}
use Rattle.iges_write.proofs.Back.{parts_fit}
use Rattle.iges_write.proofs.Columns.{Are72}
use Rattle.iges_write.proofs.RecordsBack.{owned, lines_from, length-owned}
use Rattle.iges_write.proofs.Widths.{length-text}
use Rattle.solid_data.proofs.Members.{total}
use Rattle.sample_solids.proofs.Sizes.{values_in}
use Rattle.sample_solids.proofs.Filling.{few_lines, record_few}

abbrev Lines : Type 0
Lines = List (List ℕ)

abbrev Entries : Type 0
Entries = List (Entry × List Value)

-- ---- the directory

length-directory : (first : ℕ) (es : Entries) (rs : List Lines) → length (directory_lines first es rs) ≤ 2 * length es
length-directory first [] rs = omega arith
length-directory first (e ∷ es) [] = omega arith
length-directory first (e ∷ es) (r ∷ rs) =
    omega (
      arith,
      length-directory (first + length r) es rs,
      length-append (entry_lines e.0 (first_of e.0 first) (length r))
          (directory_lines (first + length r) es rs),
    )

-- ---- the records

-- an entry as its type holds it, each value of which is one part
pub record IsShort (d : Delims) (e : Entry × List Value) : Type 0 where
  pub held : IsHeld e
  pub few : length (parts 64 d (value.Int e.0.kind ∷ e.1)) ≡ 1 + length e.1

pub all_held : (d : Delims) (es : Entries) → AllByRecursion (IsShort d) es → AllByRecursion IsHeld es
all_held d [] h = tt
all_held d (e ∷ es) h = (h.0.held, all_held d es h.1)

-- no more lines than values, type numbers and last lines
length-records : (d : Delims) (i : ℕ) (es : Entries) (rs : List Lines) → AllByRecursion (IsShort d) es → AllZip (IsRecordText d) es rs
    → length (lines_from i rs) ≤ total values_in es + 2 * length es
length-records d i [] [] h t = omega arith
length-records d i [] (r ∷ rs) h t = absurd t
length-records d i (e ∷ es) [] h t = absurd t
length-records d i (e ∷ es) (r ∷ rs) h t =
    omega (arith, length-append (owned i r) (lines_from (i + 1) rs), length-owned i r, record_few d e r t.0, h.0.few, length-records d (i + 1) es rs h.1 t.1)

-- ---- the text

module _ (f : Contents) (text : List ℕ) (t : IsText f text) where
  abbrev d : Delims
  d = f.global.delims

  -- A text is no longer than this, where each value of the entries is one part.
  pub few_bytes : Are72 f.start → AllByRecursion (IsShort d) f.entries
      → length text ≤ 81 * (length f.start + length (parts 72 d (global_values f.global)) + 4 * length f.entries + total values_in f.entries + 2)
  few_bytes start short =
      omega (
        arith,
        length-text f text t start (all_held d f.entries short),
        few_lines 72 (parts 72 d (global_values f.global)) t.global (parts_fit 72 d (global_values f.global) (lit< tt)) t.global_is,
        length-directory 1 f.entries t.records,
        length-records d 0 f.entries t.records short t.records_are,
      )
