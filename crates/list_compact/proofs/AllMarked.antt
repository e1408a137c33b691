-- Rows in which each item is marked.
use Rattle.std.specs.Prelude.{◌≡◌, ◌⊎◌, ℕ, zero, suc, ◌+◌, ◌<◌, ◌≤◌, Bool, true, false, List, [], ◌∷◌, length, Some, slice_get, slice_index_or}
use Rattle.std.proofs.Common.{refl, sym, ◌∙◌, ap, arith, inl, inr}
use Rattle.std.proofs.lemmas.Bool.{cases_lt}
use Rattle.std.proofs.lemmas.Option.{same_Some, slice_get_within}
use Rattle.entry_references.specs.EntrySets.{marks_set}
use Rattle.list_compact.specs.Marking.{AreAllMarked}

abbrev pub IsMarkedRow : List Bool → Type 0
IsMarkedRow row = (i : ℕ) → i < length row → slice_index_or row i false ≡ true

set_few : (bs : List Bool) → marks_set bs ≤ length bs
set_few [] = omega arith
set_few (true ∷ bs) = omega (arith, set_few bs)
set_few (false ∷ bs) = omega (arith, set_few bs)

-- as many marks as there are items
pub row_marked : (bs : List Bool) → marks_set bs ≡ length bs → IsMarkedRow bs
row_marked [] e i lt = absurd (omega (arith, lt))
row_marked (false ∷ bs) e i lt = absurd (omega (arith, e, set_few bs))
row_marked (true ∷ bs) e zero lt = refl
row_marked (true ∷ bs) e (suc i) lt = row_marked bs (omega (arith, e)) i (omega (arith, lt))

-- so many rows
abbrev pub AreMarkedTo : List (List Bool) → ℕ → Type 0
AreMarkedTo rows n = (k i : ℕ) (row : List Bool) → k < n → slice_get rows k ≡ Some row → i < length row → slice_index_or row i false ≡ true

pub row_more : (rows : List (List Bool)) (n : ℕ) (row : List Bool) → slice_get rows n ≡ Some row → IsMarkedRow row → AreMarkedTo rows n
    → AreMarkedTo rows (n + 1)
row_more rows n row at marked h k i q low there lt = by_order (cases_lt k n)
  where
    by_order : (k < n) ⊎ (n ≤ k) → slice_index_or q i false ≡ true
    by_order (inl less) = h k i q less there lt
    by_order (inr past) =
        let same : n ≡ k = omega (arith, past, low) in
        let is : q ≡ row = same_Some q row (sym there ∙ (ap (slice_get rows) (sym same) ∙ at)) in
        ap (λ (xs : List Bool). slice_index_or xs i false) is ∙ marked i (omega (arith, lt, ap length is))

pub rows_marked : (rows : List (List Bool)) (n : ℕ) → length rows ≤ n → AreMarkedTo rows n → AreAllMarked rows
rows_marked rows n le h k i row at lt = h k i row (omega (arith, le, slice_get_within rows k row at)) at lt
