-- The facts of an entity, each a line where it is there.
use Rattle.std.specs.Prelude.{ℕ, Bool, true, false, ◌&&◌, ℤ, pos, int_lt, neg_ℤ, List, [], ◌++◌, Option, Some, None, is_some, filter, length, flat_map, slice_get, codes, if◌then◌else◌}
use Rattle.std.specs.Ordering.{int_eq}
use Rattle.iges_fields.specs.declared.value.Value.{Value}
use Rattle.iges_fields.specs.declared.value.Value.TheVariants as value
use Rattle.iges_base.specs.Word.{is_empty, trim}
use Rattle.iges_directory.specs.declared.entry.Entry.{Entry}
use Rattle.iges_params.specs.Contents.{Contents}
use Rattle.iges_params.specs.Named.{named, values_of}
use Rattle.brep_lists.specs.Record.{kind_of_type}
use Rattle.entry_references.specs.Refs.{Record, has_layout, names_of}
use Rattle.where_text.specs.declared.listing.Listing.TheVariants.{Few}
use Rattle.where_text.specs.Listing.{more_facts, shown}
use Rattle.where_places.specs.declared.placed_file.PlacedFile.{PlacedFile}
use Rattle.where_places.specs.PlaceLines.{lines_fact}
use Rattle.where_text.specs.Spelled.{masked, signed, space_word, spelled_if, text_shown}

-- a number that isn't 0, after a word
unfoldable pub number_fact : List ℕ → ℤ → List ℕ
number_fact word n = if int_eq n (pos 0) then [] else codes "  " ++ word ++ space_word (signed n) ++ codes "\n"

-- ---- the colour

abbrev pub colour_word : ℤ → List ℕ
colour_word n =
    if int_eq n (pos 1) then codes "black"
    else (if int_eq n (pos 2) then codes "red"
    else (if int_eq n (pos 3) then codes "green"
    else (if int_eq n (pos 4) then codes "blue"
    else (if int_eq n (pos 5) then codes "yellow"
    else (if int_eq n (pos 6) then codes "magenta"
    else (if int_eq n (pos 7) then codes "cyan"
    else (if int_eq n (pos 8) then codes "white" else codes "other")))))))

abbrev pub definition_in : Option Record → Option (List Value)
definition_in None = None
definition_in (Some r) = if int_eq r.0.kind (pos 314) then Some r.1 else None

-- the values of the colour definition that a number names, if it names one
abbrev pub definition_of : Contents → ℤ → Option (List Value)
definition_of f n = definition_in (named f n)

-- a share of a colour as it is spelled; a text isn't one
abbrev pub share_word : Option Value → List ℕ
share_word (Some (value.Text t)) = codes " -"
share_word v = space_word (spelled_if v)

-- a text, where the value is one
abbrev pub text_word : Option Value → List ℕ
text_word (Some (value.Text t)) = space_word (text_shown t)
text_word _ = []

-- the shares of red, green and blue, and the name
unfoldable pub definition_words : Option (List Value) → List ℕ
definition_words None = []
definition_words (Some vs) = share_word (slice_get vs 0) ++ share_word (slice_get vs 1) ++ share_word (slice_get vs 2) ++ text_word (slice_get vs 3)

-- the word of a number, or what the definition says that a negated number names
unfoldable pub colour_words : Contents → ℤ → List ℕ
colour_words f n = if int_lt (pos 0) n then space_word (colour_word n) else definition_words (definition_of f (neg_ℤ n))

unfoldable pub colour_fact : Contents → ℤ → List ℕ
colour_fact f n = if int_eq n (pos 0) then [] else codes "  colour" ++ space_word (signed n) ++ colour_words f n ++ codes "\n"

-- ---- the label and the names

-- the label without the spaces at its ends
unfoldable pub label_fact : List ℕ → List ℕ
label_fact label = if is_empty (trim label) then [] else codes "  label" ++ space_word (masked (trim label)) ++ codes "\n"

-- a text, where the value is one, as a name
unfoldable pub name_line : Option Value → List ℕ
name_line (Some (value.Text t)) = codes "  name" ++ space_word (text_shown t) ++ codes "\n"
name_line _ = []

-- the text of a name, which is the second value of its record
abbrev pub name_fact : Contents → ℤ → List ℕ
name_fact f n = name_line (slice_get (values_of f n) 1)

abbrev pub is_text : Option Value → Bool
is_text (Some (value.Text t)) = true
is_text _ = false

-- a name is told where its value is a text
abbrev pub has_text : Contents → ℤ → Bool
has_text f n = is_text (slice_get (values_of f n) 1)

-- the facts of names, the first 20, and how many more there are
unfoldable pub limited_names : Contents → List ℤ → List ℕ
limited_names f names = flat_map (name_fact f) (shown Few names) ++ more_facts Few (length names)

abbrev pub name_facts : Contents → List ℤ → List ℕ
name_facts f names = limited_names f (filter (has_text f) names)

-- a type of which a solid is made
abbrev pub is_of_solids : ℤ → Bool
is_of_solids z = is_some (kind_of_type z)

-- the names in the second group after the own values of a record of which a solid is made
unfoldable pub entity_names : Contents → Record → List ℤ
entity_names f r = if is_of_solids r.0.kind && has_layout r then names_of f r else []

-- ---- all

-- how it is shown and placed
unfoldable pub field_facts : Contents → Entry → List ℕ
field_facts f e = number_fact (codes "level") e.level ++ colour_fact f e.colour ++ number_fact (codes "matrix") e.matrix

-- what it is called
unfoldable pub label_facts : Entry → List ℕ
label_facts e = label_fact e.label ++ number_fact (codes "subscript") e.subscript

unfoldable pub record_facts : Contents → Record → List ℕ
record_facts f r = field_facts f r.0 ++ label_facts r.0 ++ name_facts f (entity_names f r)

-- the lines of the file that it takes come first
abbrev pub facts_in : PlacedFile → ℕ → Option Record → List ℕ
facts_in p n None = []
facts_in p n (Some r) = lines_fact p.places n ++ record_facts p.file r

-- the facts of the entity that a number names
abbrev pub entity_facts : PlacedFile → ℕ → List ℕ
entity_facts p n = facts_in p n (named p.file (pos n))
