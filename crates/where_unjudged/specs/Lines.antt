-- The lines that count what isn't judged.
use Rattle.std.specs.Prelude.{ℕ, ◌==◌, ℤ, pos, List, [], ◌∷◌, ◌++◌, length, flat_map, Option, Some, None, codes, decimal, if◌then◌else◌}
use Rattle.iges_base.specs.declared.entry_no.EntryNo.{EntryNo}
use Rattle.iges_fields.specs.declared.value.Value.{Value}
use Rattle.iges_directory.specs.declared.entry.Entry.{Entry}
use Rattle.iges_params.specs.Contents.{Contents}
use Rattle.iges_params.specs.Named.{named, values_of}
use Rattle.brep_lists.specs.OwnValues.{is_record_of}
use Rattle.brep_lists.specs.Record.{items_of}
use Rattle.brep_lists.specs.declared.entity_kind.EntityKind.TheVariants.{Shell as shell}
use Rattle.where_text.specs.declared.listing.Listing.TheVariants.{Few}
use Rattle.where_text.specs.Listing.{more_facts, shown}
use Rattle.where_text.specs.Spelled.{signed, space_word}
use Rattle.where_text.specs.Types.{type_word}
use Rattle.where_unjudged.specs.declared.member.Member.{Member}
use Rattle.where_unjudged.specs.declared.member.Member.TheVariants as member
use Rattle.where_unjudged.specs.Counts.{count_of_type}
use Rattle.where_unjudged.specs.Named.{type_of_members}

-- how many there are of a type
unfoldable pub unjudged_line : ℕ → ℤ → List ℕ
unjudged_line count kind = codes "unjudged" ++ space_word (decimal count) ++ space_word (type_word kind) ++ codes "\n"

abbrev pub form_in : Option (Entry × List Value) → ℤ
form_in None = pos 0
form_in (Some r) = r.0.form

abbrev pub form_of : Contents → EntryNo → ℤ
form_of f n = form_in (named f (pos n.0))

-- how many faces the record of a shell names, `-` where it doesn't fit
abbrev pub faces_word : List Value → List ℕ
faces_word vs = if is_record_of shell vs then decimal (length (items_of shell vs)) else codes "-"

-- a shell: its number, its form and its faces
unfoldable pub shell_fact : Contents → EntryNo → List ℕ
shell_fact f n =
    codes "  shell" ++ space_word (decimal n.0) ++ codes " form" ++ space_word (signed (form_of f n)) ++ codes " faces"
    ++ space_word (faces_word (values_of f (pos n.0))) ++ codes "\n"

unfoldable pub face_fact : EntryNo → List ℕ
face_fact n = codes "  face" ++ space_word (decimal n.0) ++ codes "\n"

abbrev pub member_fact : Member → Contents → EntryNo → List ℕ
member_fact member.Shell f n = shell_fact f n
member_fact member.Face f n = face_fact n

-- the facts of the first 20, and how many more there are
unfoldable pub member_facts : Member → Contents → List EntryNo → List ℕ
member_facts m f ns = flat_map (member_fact m f) (shown Few ns) ++ more_facts Few (length ns)

-- of these members how many there are, and which; nothing where there are none
abbrev pub member_lines : Member → Contents → List EntryNo → List ℕ
member_lines m f [] = []
member_lines m f (n ∷ ns) = unjudged_line (length (n ∷ ns)) (type_of_members m) ++ member_facts m f (n ∷ ns)

-- of a type how many there are, where there is one
abbrev pub line_of_count : ℕ → ℕ → List ℕ
line_of_count count t = if count == 0 then [] else unjudged_line count (pos t)

abbrev pub type_line : Contents → ℕ → List ℕ
type_line f t = line_of_count (count_of_type f t) t
