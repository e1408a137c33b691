-- Private: the directory as a function of the sections. AreEntries and IsDirectoryFault say what it means.
use Rattle.std.specs.Prelude.{ℕ, ◌+◌, List, [], ◌∷◌, length, Option, Some, None, Result, Ok, Err}
use Rattle.iges_lines.specs.declared.reason.Reason.{Reason}
use Rattle.iges_lines.specs.declared.fault.LineFault.{LineFault}
use Rattle.iges_lines.specs.Lines.{SectionLines}
use Rattle.iges_lines.specs.Reading.{first_from}
use Rattle.iges_directory.specs.declared.entry.Placed.{Placed}
use Rattle.iges_directory.specs.Entries.{field, status_of}
use Rattle.iges_directory.specs.DirectoryFaults.{number_in, directory_fault}

abbrev pub entry_of : List ℕ → List ℕ → Placed
entry_of first second = record {
  entry = record {
    kind = number_in 1 first;
    structure = number_in 3 first;
    font = number_in 4 first;
    level = number_in 5 first;
    view = number_in 6 first;
    matrix = number_in 7 first;
    display = number_in 8 first;
    weight = number_in 2 second;
    colour = number_in 3 second;
    form = number_in 5 second;
    subscript = number_in 9 second;
    status = status_of (field 9 first);
    label = field 8 second;
  };
  first = number_in 2 first;
  count = number_in 4 second;
}

abbrev pub entries_of : List (List ℕ) → List Placed
entries_of (first ∷ second ∷ lines) = entry_of first second ∷ entries_of lines
entries_of (first ∷ []) = []
entries_of [] = []

abbrev pub entries_unless : SectionLines → Option (ℕ × Reason) → Result (List Placed) LineFault
entries_unless s None = Ok (entries_of s.directory)
entries_unless s (Some fault) = Err (record { line = length s.start + length s.global + fault.0 + 1; reason = fault.1 })

unfoldable pub read_directory : SectionLines → Result (List Placed) LineFault
read_directory s = entries_unless s (first_from (directory_fault (length s.param) s.directory) (length s.directory) 0)
