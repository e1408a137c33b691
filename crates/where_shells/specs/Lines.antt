-- The lines that the paragraphs on a shell are made of.
use Rattle.std.specs.Prelude.{ℕ, ◌+◌, ◌-◌, ◌*◌, Bool, ℤ, pos, List, [], ◌++◌, Option, Some, None, codes, decimal, slice_get, if◌then◌else◌}
use Rattle.iges_base.specs.declared.entry_no.EntryNo.{EntryNo}
use Rattle.iges_params.specs.Contents.{Contents}
use Rattle.iges_params.specs.Named.{values_of}
use Rattle.brep_lists.specs.Record.{int_at}
use Rattle.solid_data.specs.RuleNames.{rule_name}
use Rattle.solid_data.specs.SolidData.{SolidData, vertex_name}
use Rattle.solid_data.specs.declared.solid.EdgeKey.{EdgeKey}
use Rattle.solid_data.specs.declared.solid.FaceUse.{FaceUse}
use Rattle.solid_data.specs.declared.solid.Shell.{Shell}
use Rattle.solid_data.specs.declared.verdict.Rule.{Rule}
use Rattle.where_text.specs.Places.{vertex_words, face_words}
use Rattle.where_text.specs.Sentences.{rule_sentence}
use Rattle.where_text.specs.Spelled.{space_word, signed}
use Rattle.where_text.specs.Types.{type_of}

-- a word and how many
abbrev pub count_words : List ℕ → ℕ → List ℕ
count_words word n = word ++ space_word (decimal n)

-- the head of a rule's paragraph, for shell k, from 0, up to how often it fails
abbrev pub rule_words : Rule → ℕ → ℕ → List ℕ
rule_words rule k faults = codes "\nrule" ++ space_word (rule_name rule) ++ count_words (codes " shell") (k + 1) ++ count_words (codes " faults") faults

-- the whole head, with the rule's sentence
unfoldable pub head_lines : Rule → ℕ → ℕ → List ℕ
head_lines rule k faults = rule_words rule k faults ++ codes "\n" ++ rule_sentence rule

abbrev pub flag_number : Bool → ℕ
flag_number flag = if flag then 1 else 0

-- an edge: the number of its list, and its index there
abbrev pub edge_words : EdgeKey → List ℕ
edge_words key = space_word (decimal key.«list».0) ++ space_word (decimal key.index)

-- the number of an edge's curve, which is the first of the five values for the edge after the count of its list
abbrev pub curve_of : Contents → EdgeKey → ℤ
curve_of f key = int_at (values_of f (pos key.«list».0)) (5 * key.index - 4)

-- its number and its type
unfoldable pub curve_words : Contents → EdgeKey → List ℕ
curve_words f key = codes " curve" ++ space_word (signed (curve_of f key)) ++ space_word (type_of f (curve_of f key))

-- a vertex of the solid, after a word
unfoldable pub vertex_line : List ℕ → Contents → SolidData → ℕ → List ℕ
vertex_line word f s v = word ++ vertex_words f (vertex_name (slice_get s.vertices v)) ++ codes "\n"

-- a face
unfoldable pub face_line : Contents → EntryNo → List ℕ
face_line f face = codes "  face" ++ face_words f face ++ codes "\n"

-- the faces of a shell; none where there is no shell
abbrev pub faces_in : Option Shell → List FaceUse
faces_in None = []
faces_in (Some shell) = shell.faces
