-- The changed file.
use Rattle.std.specs.Prelude.{ℕ, pos, List, [], ◌∷◌, ◌++◌, map, flat_map, Option, Some, None, slice_index_or, unwrap_or}
use Rattle.std.specs.List.{enumerate_from}
use Rattle.iges_fields.specs.declared.value.Value.{Value}
use Rattle.iges_params.specs.Contents.{Contents}
use Rattle.iges_params.specs.Named.{named}
use Rattle.entry_references.specs.Refs.{Record}
use Rattle.solid_data.specs.SolidData.{SolidData}
use Rattle.shell_change.specs.declared.change.Change.{Change}
use Rattle.changed_file.specs.declared.draft.Draft.{Draft}
use Rattle.changed_file.specs.declared.draft.NewEntry.{NewEntry}
use Rattle.changed_file.specs.Changing.{drafted}
use Rattle.changed_file.specs.Emptied.{emptied}

-- an old entry, which is given with its place in the directory from 0: its new values, where it has any
abbrev pub kept_record : List (Option (List Value)) → ℕ × Record → Record
kept_record slots p = (p.1.0, unwrap_or (slice_index_or slots p.0 None) p.1.1)

-- the file in which entries have these values, by their places, where there are any
unfoldable pub with_slots : Contents → List (Option (List Value)) → Contents
with_slots f slots = record f { entries = map (kept_record slots) (enumerate_from 0 f.entries) }

-- the fields of the entry that a new one is like
abbrev pub like_record : Option Record → List Value → List Record
like_record None values = []
like_record (Some r) values = (r.0, values) ∷ []

abbrev pub new_record : Contents → NewEntry → List Record
new_record f e = like_record (named f (pos e.like)) e.values

-- new values of entries, by their places, and new entries behind all
unfoldable pub rewritten : Contents → List (Option (List Value)) → List NewEntry → Contents
rewritten f slots added = record f { entries = map (kept_record slots) (enumerate_from 0 f.entries) ++ flat_map (new_record f) added }

abbrev pub without_gone : Contents → Draft → Contents
without_gone f d = emptied d.loops (emptied d.faces (rewritten f d.slots d.added))

-- The file with one change for each of these shells of the solid, all of them changes of this file.
unfoldable pub changed : Contents → SolidData → List Change → Contents
changed f s cs = without_gone f (drafted f s cs)
