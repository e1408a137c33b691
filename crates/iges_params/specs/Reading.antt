-- Private: the file as a function of the bytes. IsFile and Refusal say what it means.
use Rattle.std.specs.Prelude.{ℕ, ◌+◌, ◌-◌, not, List, [], ◌∷◌, length, map, ℤ, pos, unsigned_abs, Option, Some, None, Result, Ok, Err, if◌then◌else◌}
use Rattle.std.specs.List.{position_from}
use Rattle.std.specs.Ordering.{int_eq}
use Rattle.iges_fields.specs.declared.value.Value.{Value}
use Rattle.iges_fields.specs.declared.fault.FieldFault.{FieldFault}
use Rattle.iges_fields.specs.Delims.{Delims}
use Rattle.iges_fields.specs.Reading.{◌>>=◌, read_values}
use Rattle.iges_lines.specs.declared.reason.Reason.{Reason}
use Rattle.iges_lines.specs.declared.reason.Reason.TheVariants.{Delimiter, GlobalValue, GlobalKind, BackPointer, RecordValue, RecordType}
use Rattle.iges_lines.specs.declared.fault.LineFault.{LineFault}
use Rattle.iges_lines.specs.Lines.{SectionLines, columns}
use Rattle.iges_lines.specs.Reading.{read_sections}
use Rattle.iges_directory.specs.declared.entry.Entry.{Entry}
use Rattle.iges_directory.specs.declared.entry.Placed.{Placed}
use Rattle.iges_directory.specs.Reading.{read_directory}
use Rattle.iges_params.specs.declared.global.Global26.{Global26}
use Rattle.iges_params.specs.Contents.{Contents}
use Rattle.iges_params.specs.Global.{Head, head, global_text, have_kinds, line_of_byte}
use Rattle.iges_params.specs.Records.{record_lines, record_text, points_back, is_number}

abbrev pub fault_at : {X : Type 0} → ℕ → Reason → Result X LineFault
fault_at line reason = Err (record { line = line; reason = reason })

-- a fault of a text in lines of this width, the first of which has this number
abbrev pub at_line : {X : Type 0} → ℕ → ℕ → List ℕ → ℕ → Reason → Result X FieldFault → Result X LineFault
at_line first width text before reason (Ok x) = Ok x
at_line first width text before reason (Err fault) = fault_at (first + line_of_byte width text (before + fault.at)) reason

-- the values of a text that is at the end of these columns, in lines of this width, the first of which has this number
unfoldable pub read_passage : ℕ → ℕ → List ℕ → Reason → Delims → List ℕ → Result (List Value) LineFault
read_passage first width columns reason d text = at_line first width columns (length columns - length text) reason (read_values d text) >>= λ x. Ok x.0

abbrev pub with_kinds : ℕ → Delims → List Value → Result Global26 LineFault
with_kinds first d values = if have_kinds values then Ok (record { delims = d; values = values }) else fault_at first GlobalKind

-- the global of these delimiters, with the values of the rest of the text
abbrev pub global_with : ℕ → List ℕ → Delims → Option (List ℕ) → Result Global26 LineFault
global_with first text d None = with_kinds first d []
global_with first text d (Some rest) = at_line first 72 text (length text - length rest) GlobalValue (read_values d rest) >>= λ x. with_kinds first d x.0

-- the values after a head
abbrev pub head_values : ℕ → List ℕ → Delims → Option (List ℕ) → Result (List Value) LineFault
head_values first text d None = Ok []
head_values first text d (Some rest) = read_passage first 72 text GlobalValue d rest

abbrev pub global_of_head : ℕ → List ℕ → Option Head → Result Global26 LineFault
global_of_head first text None = fault_at first Delimiter
global_of_head first text (Some h) = global_with first text h.delims h.values

unfoldable pub read_global : SectionLines → Result Global26 LineFault
read_global s = global_of_head (length s.start + 1) (global_text s) (head (global_text s))

abbrev pub without_type : ℕ → ℤ → List Value → Result (List Value) LineFault
without_type first kind [] = fault_at first RecordType
without_type first kind (v ∷ values) = if is_number kind v then Ok values else fault_at first RecordType

abbrev pub values_unless : List (List ℕ) → Delims → ℕ → Placed → Option ℕ → Result (List Value) LineFault
values_unless params d first p (Some line) = fault_at (first + line) BackPointer
values_unless params d first p None =
    at_line first 64 (record_text params p) 0 RecordValue (read_values d (record_text params p)) >>= λ x. without_type first p.entry.kind x.0

-- the values of an entry's record, where this many lines come before the P lines
unfoldable pub read_record : ℕ → List (List ℕ) → Delims → ℕ → Placed → Result (List Value) LineFault
read_record above params d number p =
    if int_eq p.entry.kind (pos 0) then Ok []
    else values_unless params d (above + unsigned_abs p.first) p (position_from (λ l. not (points_back number l)) 0 (record_lines params p))

-- how many lines come before the P lines
abbrev pub above : SectionLines → ℕ
above s = length s.start + length s.global + length s.directory

-- the same, for an entry that isn't of type 0
unfoldable pub used_values : ℕ → List (List ℕ) → Delims → ℕ → Placed → Result (List Value) LineFault
used_values above params d number p = values_unless params d (above + unsigned_abs p.first) p
    (position_from (λ l. not (points_back number l)) 0 (record_lines params p))

unfoldable pub read_records : ℕ → List (List ℕ) → Delims → ℕ → List Placed → Result (List (Entry × List Value)) LineFault
read_records above params d number [] = Ok []
read_records above params d number (p ∷ ps) = do
  values ← read_record above params d number p
  others ← read_records above params d (number + 2) ps
  Ok ((p.entry, values) ∷ others)

-- the file with these entries
abbrev pub with_entries : Contents → List (Entry × List Value) → Result Contents LineFault
with_entries f entries = Ok (record { start = f.start; global = f.global; entries = entries })

-- the file with the entries and the values of their records
abbrev pub read_entries : ℕ → List (List ℕ) → Contents → List Placed → Result Contents LineFault
read_entries above params f placed = read_records above params f.global.delims 1 placed >>= with_entries f

-- the file of the lines
unfoldable pub read_lines : SectionLines → Result Contents LineFault
read_lines s = do
  global ← read_global s
  placed ← read_directory s
  entries ← read_records (length s.start + length s.global + length s.directory) s.param global.delims 1 placed
  Ok (record { start = map (columns 1 72) s.start; global = global; entries = entries })

unfoldable pub read_file : List ℕ → Result Contents LineFault
read_file bytes = read_sections bytes >>= read_lines
