-- Numbers of the items of lists, each list with slots of its own.
use Rattle.std.specs.Prelude.{◌≡◌, ◌==◌, ℕ, List, Option, Some, None, slice_get, slice_index, if◌then◌else◌}
use Rattle.iges_base.specs.declared.entry_no.EntryNo.{EntryNo}

-- where each list's slots are, and the slots with the list that they belong to
pub record Slots : Type 0 where
  pub lists : List ℕ
  pub slots : List (EntryNo × List ℕ)

abbrev pub slot_in : Option (EntryNo × List ℕ) → ℕ → ℕ → ℕ
slot_in None l i = 0
slot_in (Some s) l i = if s.0.0 == l then slice_index s.1 i else 0

-- the number of an item of a list
abbrev pub slot_of : Slots → ℕ → ℕ → ℕ
slot_of s l i = slot_in (slice_get s.slots (slice_index s.lists l)) l i

-- The list's slots are at this place.
abbrev pub HasSlots : Slots → EntryNo → ℕ → Type 0
HasSlots s l place = (slice_index s.lists l.0 ≡ place) × ((slots : List ℕ) × (slice_get s.slots place ≡ Some (l, slots)))

-- The list's place is no place of its own slots.
abbrev pub HasNoSlots : Slots → EntryNo → Type 0
HasNoSlots s l = (slots : EntryNo × List ℕ) → slice_get s.slots (slice_index s.lists l.0) ≡ Some slots → ¬ (slots.0.0 ≡ l.0)
