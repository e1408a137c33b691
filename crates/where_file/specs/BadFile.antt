-- What is said of a bad file after the sentence of its reason.
use Rattle.std.specs.Prelude.{ℕ, ◌-◌, ◌==◌, ◌&&◌, not, Bool, true, false, List, [], ◌∷◌, ◌++◌, Option, Some, None, codes, if◌then◌else◌}
use Rattle.iges_lines.specs.declared.fault.LineFault.{LineFault}
use Rattle.iges_lines.specs.declared.reason.Reason.{Reason}
use Rattle.iges_lines.specs.declared.reason.Reason.TheVariants as reason
use Rattle.where_file.specs.declared.look.FileKind.{FileKind}
use Rattle.where_file.specs.declared.look.LineKind.{LineKind}
use Rattle.where_places.specs.FileLine.{from_line, has_lf, line_of}
use Rattle.where_file.specs.LineFacts.{field_of, line_facts, line_head}
use Rattle.where_file.specs.Looks.{file_kind_text, is_of_whole, kind_of_file, kind_of_line, line_kind_text}

-- the line that fails, with its facts; nothing where the file ends before it
unfoldable pub line_text : LineFault → List ℕ → List ℕ
line_text fault [] = []
line_text fault (b ∷ bytes) = line_head fault.line (b ∷ bytes) ++ line_facts (field_of fault.reason) (line_of (b ∷ bytes))

-- what the whole file looks like, where its first line fails
unfoldable pub file_kind_of : LineFault → List ℕ → Option FileKind
file_kind_of fault bytes = if fault.line == 1 && is_of_whole fault.reason then kind_of_file bytes else None

-- what the line looks like that fails, where these are the bytes from it on
unfoldable pub line_kind_of : LineFault → List ℕ → Option LineKind
line_kind_of fault [] = None
line_kind_of fault (b ∷ bytes) = kind_of_line fault.reason (not (has_lf (b ∷ bytes))) (line_of (b ∷ bytes))

-- of the line, where there is none of the file
unfoldable pub look_hint : Option FileKind → Option LineKind → List ℕ
look_hint (Some file) line = file_kind_text file
look_hint None (Some line) = line_kind_text line
look_hint None None = []

-- a reason of the pass over the lines
abbrev pub is_of_lines : Reason → Bool
is_of_lines reason.NotFixed = true
is_of_lines reason.Length = true
is_of_lines reason.Letter = true
is_of_lines reason.Number = true
is_of_lines reason.Counts = true
is_of_lines reason.Missing = true
is_of_lines reason.After = true
is_of_lines _ = false

-- the program that mends lines
unfoldable pub layout_hint : Reason → List ℕ
layout_hint r =
    if is_of_lines r then codes "hint layout\n  igesolid layout FILE says whether the lines can be mended, and how.\n" else []

-- the hints, where these are the bytes of the file, and those from the line on
unfoldable pub bad_hints : LineFault → List ℕ → List ℕ → List ℕ
bad_hints fault bytes rest = look_hint (file_kind_of fault bytes) (line_kind_of fault rest) ++ layout_hint fault.reason

-- all
unfoldable pub bad_file_facts : LineFault → List ℕ → List ℕ
bad_file_facts fault bytes = line_text fault (from_line (fault.line - 1) bytes) ++ bad_hints fault bytes (from_line (fault.line - 1) bytes)
