use Rattle.std.proofs.Common.{◌≡◌, ◌++◌, List, length, map, drop}
use Rattle.iges_directory.specs.Entries.{AreEntries}
use Rattle.iges_directory.specs.declared.entry.Placed.{Placed}
use Rattle.where_places.specs.Places.{record_lines_of}
use Rattle.where_places.proofs.reading.all_record_lines.Given as goal

abbrev pub invariant-entries : goal.invariant-entries
invariant-entries l = (ps : List Placed) → AreEntries (length l.lines.param) l.lines.directory ps
    → l.records.items ++ map record_lines_of (drop l.i ps) ≡ map record_lines_of ps
