-- What changes make of a file's records: new values, by the places of entries, and new entries behind all.
use Rattle.std.specs.Prelude.{ℕ, ◌+◌, ◌*◌, ◌/◌, ℤ, List, [], ◌∷◌, ◌++◌, length, Option, Some, None, set, replicate}
use Rattle.iges_fields.specs.declared.value.Value.{Value}
use Rattle.iges_params.specs.Contents.{Contents}
use Rattle.changed_records.specs.declared.shells.FaceFlag.{FaceFlag}
use Rattle.changed_file.specs.declared.draft.Draft.{Draft}
use Rattle.changed_file.specs.declared.draft.NewEntry.{NewEntry}

-- nothing is changed
abbrev pub blank_draft : Contents → Draft
blank_draft f = record { slots = replicate (length f.entries) None; added = []; voids = []; faces = []; loops = [] }

-- the number of the next new entry
abbrev pub next_number : Contents → List NewEntry → ℕ
next_number f added = 2 * (length f.entries + length added) + 1

-- an entry gets these values
abbrev pub with_values : List (Option (List Value)) → ℕ → List Value → List (Option (List Value))
with_values slots n values = set slots (n / 2) (Some values)
