-- The numbers in fields of entries.
use Rattle.std.specs.Prelude.{◌≡◌, ℕ, true, int_le, ◌*◌, ◌-◌, ◌<◌, ◌≤◌, ◌^◌, ℤ, pos, negsuc, List, length, Some, unsigned_abs, unwrap_or}
use Rattle.std.proofs.Common.{sym, ap, ◌∙◌, arith}
use Rattle.std.proofs.lemmas.Bool.{and_parts, leb-true}
use Rattle.iges_base.specs.Word.{column_number}
use Rattle.iges_lines.specs.Lines.{columns}
use Rattle.iges_directory.specs.Entries.{Holds}
use Rattle.iges_directory.specs.Bounds.{fits_columns}
use Rattle.iges_directory.proofs.InColumns.{column_fits}

-- a number that eight columns hold is small
fits_small : (z : ℤ) → fits_columns z ≡ true → unsigned_abs z < 2 ^ 32
fits_small (pos n) h =
    let low = leb-true n 99999999 (and_parts (int_le (negsuc 9999998) (pos n)) (int_le (pos n) (pos 99999999)) h).1 in omega (arith, low)
fits_small (negsuc n) h =
    let low = leb-true n 9999998 (and_parts (int_le (negsuc 9999998) (negsuc n)) (int_le (negsuc n) (pos 99999999)) h).0 in omega (arith, low)

pub field_is : (k : ℕ) (line field : List ℕ) (number z n : ℤ) (result : ℕ) → length field ≤ 8 → field ≡ columns (8 * k - 7) (8 * k) line
    → column_number field ≡ Some number → z ≡ number → Holds k line n → (unsigned_abs z < 2 ^ 32 → result ≡ unsigned_abs z) → result ≡ unsigned_abs n
field_is k line field number z n result short is read fits holds small =
    let same : number ≡ n = ap (λ o. unwrap_or o n) (sym read ∙ (ap column_number is ∙ holds)) in
    let at : z ≡ n = fits ∙ same in
    let few = fits_small number (column_fits field number short read) in
    let size : unsigned_abs z ≡ unsigned_abs number = ap unsigned_abs fits in
    small (omega (arith, few, size)) ∙ ap unsigned_abs at
