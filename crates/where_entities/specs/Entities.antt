-- The entities that are described, and their paragraphs.
use Rattle.std.specs.Prelude.{ℕ, ◌+◌, ◌*◌, Bool, ◌&&◌, ◌==◌, ℤ, pos, List, [], ◌∷◌, ◌++◌, length, map, filter, flat_map, Option, Some, None, codes, decimal}
use Rattle.std.specs.Prelude.{if◌then◌else◌}
use Rattle.std.specs.List.{list_any}
use Rattle.std.specs.Ordering.{int_eq}
use Rattle.iges_base.specs.declared.entry_no.EntryNo.{EntryNo}
use Rattle.iges_params.specs.Contents.{Contents}
use Rattle.iges_params.specs.Named.{named}
use Rattle.brep_lists.specs.Record.{int_at, type_number}
use Rattle.brep_lists.specs.declared.entity_kind.EntityKind.TheVariants.{Face as face}
use Rattle.entry_references.specs.Refs.{Record, names_entry}
use Rattle.solid_data.specs.Ring.{numbers_from}
use Rattle.where_text.specs.Spelled.{signed, space_word}
use Rattle.where_text.specs.Types.{type_of, type_word}
use Rattle.where_places.specs.declared.placed_file.PlacedFile.{PlacedFile}
use Rattle.where_places.specs.PlaceLines.{lines_fact}
use Rattle.where_entities.specs.Facts.{record_facts}

-- the number of the i-th entry, from 0
abbrev pub number_at : ℕ → EntryNo
number_at i = record { 0 = 2 * i + 1 }

abbrev pub is_among : List EntryNo → EntryNo → Bool
is_among numbers n = list_any (λ (m : EntryNo). m.0 == n.0) numbers

abbrev pub is_described : Contents → List EntryNo → EntryNo → Bool
is_described f numbers n = is_among numbers n && names_entry f (pos n.0)

-- of these numbers those that name an entry, by rising number, each once
unfoldable pub described : Contents → List EntryNo → List EntryNo
described f numbers = filter (is_described f numbers) (map number_at (numbers_from 0 (length f.entries)))

abbrev pub surface_named : Contents → ℤ → List ℕ
surface_named f s = if names_entry f s then codes " surface" ++ space_word (signed s) ++ space_word (type_of f s) else []

-- of a face the surface that its record names first
unfoldable pub surface_words : Contents → Record → List ℕ
surface_words f r = if int_eq r.0.kind (type_number face) then surface_named f (int_at r.1 0) else []

-- the number of an entity and its type
unfoldable pub record_head : Contents → EntryNo → Record → List ℕ
record_head f n r = codes "entity" ++ space_word (decimal n.0) ++ space_word (type_word r.0.kind) ++ surface_words f r ++ codes "\n"

-- its number and type, the lines of the file that it takes, and its other facts
unfoldable pub record_text : PlacedFile → EntryNo → Record → List ℕ
record_text p n r = record_head p.file n r ++ lines_fact p.places n.0 ++ record_facts p.file r

abbrev pub text_in : PlacedFile → EntryNo → Option Record → List ℕ
text_in p n None = []
text_in p n (Some r) = record_text p n r

abbrev pub entity_text : PlacedFile → EntryNo → List ℕ
entity_text p n = text_in p n (named p.file (pos n.0))

-- an empty line, how many there are, and a paragraph for each; nothing where there are none
abbrev pub paragraphs : PlacedFile → List EntryNo → List ℕ
paragraphs p [] = []
paragraphs p (n ∷ ns) = codes "\nentities" ++ space_word (decimal (length (n ∷ ns))) ++ codes "\n" ++ flat_map (entity_text p) (n ∷ ns)

-- the part of a text that describes these of the numbers that name an entry
unfoldable pub entities_text : PlacedFile → List EntryNo → List ℕ
entities_text p numbers = paragraphs p (described p.file numbers)
