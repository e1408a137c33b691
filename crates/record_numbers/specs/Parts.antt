-- Private: the parts of a record as the code has them.
use Rattle.std.specs.Prelude.{◌≡◌, ℕ, zero, suc, ◌+◌, ◌<◌, Bool, false, true, pos, List, length, map, set, None, slice_index_or, if◌then◌else◌}
use Rattle.std.specs.Option.{is_none}
use Rattle.iges_fields.specs.declared.value.Value.{Value}
use Rattle.iges_fields.specs.declared.value.Value.TheVariants as value
use Rattle.iges_params.specs.Contents.{Contents}
use Rattle.entry_references.specs.EntrySets.{is_among}
use Rattle.entry_references.specs.Refs.{Record, entry_fault, number_of}
use Rattle.record_numbers.specs.EqualRecords.{Part, pointer, plain, cut_value}
use Rattle.record_numbers.specs.declared.told.Part.{Part as Held}
use Rattle.record_numbers.specs.declared.told.Part.TheVariants as held

abbrev pub said : Held → Part
said (held.Pointer z) = pointer z
said held.Cut = plain (value.Int (pos 0))
said (held.Plain v) = plain v.now

abbrev pub said_all : List Held → List Part
said_all parts = map said parts

abbrev pub is_faultless : Contents → Record → Bool
is_faultless f r = is_none (entry_fault f r)

-- a mark for each of so many places, from 1, says whether it is among them
pub record AreMarkedPlaces (marks : List Bool) (places : List ℕ) (count : ℕ) : Type 0 where
  pub long : length marks ≡ count
  pub marked : (i : ℕ) → i < count → slice_index_or marks i false ≡ is_among places (i + 1)

abbrev pub with_mark : List Bool → ℕ → List Bool
with_mark marks zero = marks
with_mark marks (suc k) = set marks k true

abbrev pub part_as : Bool → Bool → Value → Part
part_as is_pointer is_cut v = if is_pointer then pointer (number_of v) else (if is_cut then plain (cut_value v) else plain v)
