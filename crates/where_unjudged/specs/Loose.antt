-- The shells that no solid names, and the faces that no shell names.
use Rattle.std.specs.Prelude.{ℕ, ◌+◌, ◌*◌, Bool, false, not, ◌&&◌, ℤ, pos, List, [], length, map, filter, flat_map, Option, Some, None, if◌then◌else◌}
use Rattle.std.specs.List.{list_any}
use Rattle.std.specs.Ordering.{int_eq}
use Rattle.iges_base.specs.declared.entry_no.EntryNo.{EntryNo}
use Rattle.iges_fields.specs.declared.value.Value.{Value}
use Rattle.iges_directory.specs.declared.entry.Entry.{Entry}
use Rattle.iges_params.specs.Contents.{Contents}
use Rattle.iges_params.specs.Named.{named, values_of}
use Rattle.solid_data.specs.Ring.{numbers_from}
use Rattle.where_unjudged.specs.declared.member.Member.{Member}
use Rattle.where_unjudged.specs.Named.{is_at, members_in, names_members, type_of_members}

-- the number of the i-th entry, from 0
abbrev pub number_at : ℕ → EntryNo
number_at i = record { 0 = 2 * i + 1 }

-- the numbers of all entries, in directory order
abbrev pub numbers : Contents → List EntryNo
numbers f = map number_at (numbers_from 0 (length f.entries))

abbrev pub is_owner : Member → Option (Entry × List Value) → Bool
is_owner m None = false
is_owner m (Some r) = names_members m r.0.kind r.0.form

-- the members that an entity names
unfoldable pub members_of : Member → Contents → EntryNo → List (ℤ × Bool)
members_of m f n = if is_owner m (named f (pos n.0)) then members_in m (values_of f (pos n.0)) else []

-- an entity of the file names the k-th entry, from 0
abbrev pub is_named : Member → Contents → ℕ → Bool
is_named m f k = list_any (is_at k) (flat_map (members_of m f) (numbers f))

abbrev pub is_member : Member → Option (Entry × List Value) → Bool
is_member m None = false
is_member m (Some r) = int_eq r.0.kind (type_of_members m)

abbrev pub is_loose : Member → Contents → ℕ → Bool
is_loose m f k = is_member m (named f (pos (number_at k).0)) && not (is_named m f k)

-- the numbers of the entities of the type of such members that no entity names, in directory order
unfoldable pub loose : Member → Contents → List EntryNo
loose m f = map number_at (filter (is_loose m f) (numbers_from 0 (length f.entries)))
