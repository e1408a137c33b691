-- The facts that tell where in the file a value of a record stands.
use Rattle.std.specs.Prelude.{ℕ, ◌+◌, ◌-◌, ◌/◌, ◌%◌, min, max, pos, List, [], ◌++◌, Option, Some, None, codes, decimal, option_map, replicate, slice_get}
use Rattle.iges_fields.specs.declared.value.Value.{Value}
use Rattle.iges_directory.specs.declared.entry.Entry.{Entry}
use Rattle.iges_params.specs.Named.{named}
use Rattle.where_places.specs.FileLine.{from_line, line_of}
use Rattle.where_places.specs.declared.places.RecordLines.{RecordLines}
use Rattle.where_places.specs.declared.placed_file.PlacedFile.{PlacedFile}
use Rattle.where_text.specs.Spelled.{masked, space_word}
use Rattle.where_places.specs.declared.span.Span.{Span}
use Rattle.where_places.specs.Spans.{value_span}
use Rattle.value_lines.specs.RecordText.{record_text}

unfoldable pub line_fact : ℕ → ℕ → List ℕ
line_fact line column = codes "  line" ++ space_word (decimal line) ++ codes " column" ++ space_word (decimal column) ++ codes "\n"

unfoldable pub text_fact : List ℕ → List ℕ
text_fact line = codes "  text" ++ space_word (masked line) ++ codes "\n"

unfoldable pub mark_fact : ℕ → ℕ → List ℕ
mark_fact before width = codes "  mark " ++ replicate before 32 ++ replicate width 94 ++ codes "\n"

-- how many bytes of the span are in the line in which it begins, at least one
abbrev pub marked_width : Span → ℕ
marked_width s = max (min s.width (64 - s.at % 64)) 1

-- of a span of the text of a record whose first line in the file has this number, from 1: the line and column in which it begins, the line, and a mark below it
unfoldable pub span_facts : List ℕ → ℕ → Span → List ℕ
span_facts bytes first s =
    line_fact (first + s.at / 64) (s.at % 64 + 1) ++ text_fact (line_of (from_line (first + s.at / 64 - 1) bytes))
    ++ mark_fact (s.at % 64) (marked_width s)

-- the number of the first of the lines of a record in the file
abbrev pub first_line : PlacedFile → RecordLines → ℕ
first_line p lines = p.places.before_records + lines.first

-- of the k-th of these values, from 0, of a record in these lines
abbrev pub in_lines : PlacedFile → ℕ → List Value → RecordLines → List ℕ
in_lines p k vs lines =
    span_facts p.bytes (first_line p lines) (value_span p.file.global.delims vs k (record_text p.bytes (first_line p lines) lines.count))

abbrev pub lines_if : PlacedFile → ℕ → Option (List Value) → Option RecordLines → List ℕ
lines_if p k None lines = []
lines_if p k (Some vs) None = []
lines_if p k (Some vs) (Some lines) = in_lines p k vs lines

-- of the k-th value, from 0, of the record of the entry that a number names
unfoldable pub value_lines : PlacedFile → ℕ → ℕ → List ℕ
value_lines p n k = lines_if p k (option_map (λ (r : Entry × List Value). r.1) (named p.file (pos n))) (slice_get p.places.records (n / 2))
