-- The entries that were named so far: a mark for each, by its place in the directory.
use Rattle.std.specs.Prelude.{ℕ, ◌/◌, ℤ, Bool, true, false, List, Option, Some, None, option_map, get_or, set}
use Rattle.iges_params.specs.Contents.{Contents}
use Rattle.iges_params.specs.Named.{named}
use Rattle.entry_references.specs.Refs.{Record}
use Rattle.solid_data.specs.Obligations.{entry_number}

-- the place of the entry that a number names
abbrev pub place_named : Contents → ℤ → Option ℕ
place_named f z = option_map (λ (r : Record). entry_number z / 2) (named f z)

abbrev pub mark_at : List Bool → Option ℕ → Bool
mark_at marks None = false
mark_at marks (Some k) = get_or marks k false

abbrev pub marked_at : List Bool → Option ℕ → List Bool
marked_at marks None = marks
marked_at marks (Some k) = set marks k true

-- a number that names no entry was never named
abbrev pub was_named : Contents → List Bool → ℤ → Bool
was_named f marks z = mark_at marks (place_named f z)

abbrev pub with_mark : Contents → List Bool → ℤ → List Bool
with_mark f marks z = marked_at marks (place_named f z)
