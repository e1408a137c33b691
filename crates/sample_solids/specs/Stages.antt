-- Private: a sample's file as it grows.
use Rattle.std.specs.Prelude.{ℕ, List, [], ◌∷◌, ◌++◌, flat_map, take}
use Rattle.iges_fields.specs.declared.value.Value.{Value}
use Rattle.iges_directory.specs.declared.entry.Entry.{Entry}
use Rattle.iges_params.specs.Contents.{Contents}
use Rattle.sample_solids.specs.Sample.{squares, start_line, no_values, first_entries, face_entries}

-- the file that has these entries, and the start line and the global of a sample
abbrev pub holding : List (Entry × List Value) → Contents
holding entries = record { start = start_line ∷ []; global = no_values; entries = entries }

-- the first entries, and then the faces of the first k squares
unfoldable pub stage : ℕ → ℕ → Contents
stage n k = holding (first_entries n ++ flat_map (face_entries n) (take k (squares n)))
