-- The paragraph of a rule that fails of a record of a solid.
use Rattle.std.specs.Prelude.{ℕ, ◌+◌, ◌-◌, ◌*◌, ◌%◌, ◌==◌, nat_lt, if◌then◌else◌, ℤ, pos, negsuc, List, [], ◌∷◌, ◌++◌, length, Option, Some, None, slice_get}
use Rattle.std.specs.Prelude.{codes, decimal}
use Rattle.iges_base.specs.declared.entry_no.EntryNo.{EntryNo}
use Rattle.iges_fields.specs.declared.value.Value.{Value}
use Rattle.iges_directory.specs.declared.entry.Entry.{Entry}
use Rattle.iges_params.specs.Contents.{Contents}
use Rattle.iges_params.specs.Named.{values_of}
use Rattle.brep_lists.specs.Record.{int_at}
use Rattle.solid_data.specs.RuleNames.{rule_name}
use Rattle.solid_data.specs.declared.verdict.Rule.{Rule}
use Rattle.solid_data.specs.declared.verdict.Rule.TheVariants as rule
use Rattle.solid_data.specs.declared.verdict.Failing.{Failing}
use Rattle.record_paths.specs.declared.path.Path.{Path}
use Rattle.record_paths.specs.Texts.{path_text, path_named}
use Rattle.record_values.specs.declared.bad_values.BadValue.{BadValue}
use Rattle.record_values.specs.declared.due.Due.{Due}
use Rattle.record_values.specs.declared.naming.Naming.{Naming}
use Rattle.record_values.specs.BadValue.{bad_value, entry_at, item_count}
use Rattle.record_values.specs.Due.{due_word}
use Rattle.record_values.specs.Naming.{first_naming}
use Rattle.where_text.specs.Sentences.{rule_sentence}
use Rattle.where_text.specs.Spelled.{signed, space_word, spelled}
use Rattle.where_text.specs.Types.{type_of}
use Rattle.where_places.specs.declared.placed_file.PlacedFile.{PlacedFile}
use Rattle.value_lines.specs.ValueLines.{value_lines}

-- a fact: two spaces, its word and what it says
abbrev pub fact : List ℕ → List ℕ → List ℕ
fact word tells = codes "  " ++ word ++ tells ++ codes "\n"

-- ---- the bad value

abbrev pub values_in : Contents → EntryNo → List Value
values_in f entity = values_of f (pos entity.0)

-- what is in a place of a record: a value as it is shown, or the record's end
abbrev pub found : Option Value → List ℕ
found None = codes "end"
found (Some v) = spelled v

unfoldable pub value_words : List Value → ℕ → List ℕ
value_words vs i = fact (codes "value") (space_word (decimal (i + 1)) ++ codes " found" ++ space_word (found (slice_get vs i)))

-- the bad value, and where it stands in the file
abbrev pub value_fact : PlacedFile → EntryNo → Option ℕ → List ℕ
value_fact p entity None = []
value_fact p entity (Some i) = value_words (values_in p.file entity) i ++ value_lines p entity.0 i

abbrev pub due_fact : Option Due → List ℕ
due_fact None = []
due_fact (Some d) = fact (codes "due") (space_word (due_word d))

-- the number that is judged: that in the place, or the entity's own
abbrev pub judged : Contents → EntryNo → Option ℕ → ℤ
judged f entity None = pos entity.0
judged f entity (Some i) = int_at (values_in f entity) i

-- ---- what a number names

-- why the number names no entry, the first that holds
abbrev pub why_word : Contents → ℤ → List ℕ
why_word f (negsuc n) = codes "negative"
why_word f (pos n) =
    if n == 0 then codes "zero"
    else (if n % 2 == 0 then codes "even" else (if nat_lt (2 * length f.entries) n then codes "beyond" else codes "null"))

abbrev pub named_or_why : Contents → ℤ → Option Entry → List ℕ
named_or_why f z None = fact (codes "why") (space_word (why_word f z))
named_or_why f z (Some e) = fact (codes "entry") (space_word (signed z) ++ space_word (type_of f z) ++ codes " form" ++ space_word (signed e.form))

-- the entry that the number names, or why there is none
unfoldable pub named_fact : Contents → ℤ → List ℕ
named_fact f z = named_or_why f z (entry_at f z)

-- the place that names the number first
abbrev pub first_fact : Option Naming → List ℕ
first_fact None = []
first_fact (Some x) = fact (codes "first") (space_word (signed x.entity) ++ codes " item" ++ space_word (decimal x.item))

-- the list that a number names, and how many items it has
unfoldable pub list_fact : Contents → ℤ → List ℕ
list_fact f z = fact (codes "list") (space_word (signed z) ++ space_word (type_of f z) ++ codes " items" ++ space_word (decimal (item_count f z)))

abbrev pub count_fact : List Value → List ℕ
count_fact vs = fact (codes "values") (space_word (decimal (length vs)))

-- ---- the paragraph

-- the place before another
abbrev pub before : Option ℕ → Option ℕ
before None = None
before (Some i) = Some (i - 1)

-- what the rule says of the solid n, where this is the place of the bad value; an index follows the list that it is meant in
abbrev pub rule_facts : Contents → EntryNo → EntryNo → Option ℕ → Rule → List ℕ
rule_facts f n entity place rule.NoEntry = named_fact f (judged f entity place)
rule_facts f n entity place rule.WrongKind = named_fact f (judged f entity place)
rule_facts f n entity place rule.BadGeometry = named_fact f (judged f entity place)
rule_facts f n entity place rule.BadLayout = count_fact (values_in f entity)
rule_facts f n entity place rule.Twice = first_fact (first_naming f (pos n.0) (judged f entity place))
rule_facts f n entity place rule.BadIndex = list_fact f (judged f entity (before place))
rule_facts f n entity place _ = []

unfoldable pub bad_facts : PlacedFile → EntryNo → Failing → BadValue → List ℕ
bad_facts p n x bad = value_fact p x.entity bad.place ++ due_fact bad.due ++ rule_facts p.file n x.entity bad.place x.rule

unfoldable pub head_lines : Failing → List ℕ
head_lines x =
    codes "\nrule" ++ space_word (rule_name x.rule) ++ codes " faults 1\n" ++ rule_sentence x.rule
    ++ codes "item" ++ space_word (decimal x.entity.0) ++ space_word (decimal x.place) ++ codes "\n"

abbrev pub path_lines : EntryNo → Option Path → List ℕ
path_lines n None = []
path_lines n (Some path) = path_text n path

abbrev pub path_entries : EntryNo → Option Path → List EntryNo
path_entries n None = []
path_entries n (Some path) = path_named n path

-- The paragraph of solid n, where this fails on this path.
unfoldable pub record_text : PlacedFile → EntryNo → Failing → Option Path → List ℕ
record_text p n x path = head_lines x ++ bad_facts p n x (bad_value p.file x) ++ path_lines n path

-- the entries that it names: the failing one, and those on the path
unfoldable pub record_named : EntryNo → Failing → Option Path → List EntryNo
record_named n x path = x.entity ∷ path_entries n path
