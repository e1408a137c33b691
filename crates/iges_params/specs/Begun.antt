-- Private: what the passes before the records give.
use Rattle.std.specs.Prelude.{◌≡◌, [], List, Ok, length, map}
use Rattle.iges_lines.specs.Lines.{SectionLines, columns}
use Rattle.iges_directory.specs.declared.entry.Placed.{Placed}
use Rattle.iges_directory.specs.Entries.{AreEntries}
use Rattle.iges_params.specs.Contents.{Contents}
use Rattle.iges_params.specs.Reading.{read_global}

-- the file without its entries, and the directory
pub record IsBegunFile (s : SectionLines) (file : Contents) (placed : List Placed) : Type 0 where
  pub start : file.start ≡ map (columns 1 72) s.start
  pub global : read_global s ≡ Ok file.global
  pub entries : file.entries ≡ []
  pub directory : AreEntries (length s.param) s.directory placed
