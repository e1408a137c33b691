-- The solids of a file.
use Rattle.std.specs.Prelude.{ℕ, pos, ◌+◌, ◌*◌, Bool, false, List, [], ◌∷◌, map, Option, Some, None, slice_get, if◌then◌else◌}
use Rattle.std.specs.Ordering.{int_eq}
use Rattle.iges_base.specs.declared.entry_no.EntryNo.{EntryNo}
use Rattle.iges_fields.specs.declared.value.Value.{Value}
use Rattle.iges_directory.specs.declared.entry.Entry.{Entry}
use Rattle.iges_params.specs.Contents.{Contents}
use Rattle.iges_params.specs.Named.{named}

-- an entry of type 186
abbrev pub is_solid_entry : Option (Entry × List Value) → Bool
is_solid_entry None = false
is_solid_entry (Some e) = int_eq e.0.kind (pos 186)

-- the entry at this place, from 0, is a solid
abbrev pub is_solid_at : Contents → ℕ → Bool
is_solid_at f i = is_solid_entry (slice_get f.entries i)

-- the number names a solid
abbrev pub is_solid : Contents → ℕ → Bool
is_solid f n = is_solid_entry (named f (pos n))

-- the numbers of the solids among entries of which the first has this place, in directory order
abbrev pub solids_from : ℕ → List (Entry × List Value) → List ℕ
solids_from i [] = []
solids_from i (e ∷ es) = if int_eq e.0.kind (pos 186) then (2 * i + 1) ∷ solids_from (i + 1) es else solids_from (i + 1) es

abbrev pub solids_of : Contents → List ℕ
solids_of f = solids_from 0 f.entries

abbrev pub numbers_of : List EntryNo → List ℕ
numbers_of list = map (λ (no : EntryNo). no.0) list
