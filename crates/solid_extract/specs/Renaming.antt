-- Private: the places of kept entries.
use Rattle.std.specs.Prelude.{◌≡◌, ℕ, ◌+◌, ◌*◌, ◌<◌, ◌≤◌, ◌==◌, List, length, slice_index_or}
use Rattle.std.specs.List.{AllByRecursion, position_or_len}
use Rattle.iges_base.specs.declared.TheConstants.{ENTRY_LIMIT}
use Rattle.entry_references.specs.EntrySets.{IsWithin}

-- where the number is among those that are kept, or how many these are
abbrev pub place_of : List ℕ → ℕ → ℕ
place_of kept m = position_or_len (λ k. k == m) kept

-- so it is for each entry of the file
pub record ArePlaces (kept places : List ℕ) : Type 0 where
  pub stand : (j : ℕ) → j < length places → slice_index_or places j 0 ≡ place_of kept (2 * j + 1)
  pub within : AllByRecursion (IsWithin (length places)) kept
  pub few : length kept ≤ ENTRY_LIMIT
