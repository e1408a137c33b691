-- The bytes are a file with these contents.
use Rattle.std.specs.Prelude.{◌≡◌, ℕ, List, length, map}
use Rattle.iges_lines.specs.Lines.{SectionLines, columns}
use Rattle.iges_lines.specs.Sectioned.{IsSectioned}
use Rattle.iges_directory.specs.declared.entry.Placed.{Placed}
use Rattle.iges_directory.specs.Entries.{AreEntries}
use Rattle.iges_params.specs.Contents.{Contents}
use Rattle.iges_params.specs.Global.{global_text, GlobalText}
use Rattle.iges_params.specs.Records.{AreRecords}

pub record IsFile (bytes : List ℕ) (f : Contents) : Type 0 where
  pub sections : SectionLines
  pub placed : List Placed
  pub sectioned : IsSectioned bytes sections
  pub start : f.start ≡ map (columns 1 72) sections.start
  pub global : GlobalText (global_text sections) f.global
  pub directory : AreEntries (length sections.param) sections.directory placed
  pub records : AreRecords sections.param f.global.delims 1 placed f.entries
