use Rattle.std.proofs.Common.{length}
use Rattle.iges_lines.proofs.OneAnswer.{one_reading}
use Rattle.iges_directory.specs.DirectoryFaults.{IsDirectoryFault}
use Rattle.iges_directory.specs.Entries.{AreEntries}
use Rattle.iges_directory.specs.Reading.{read_directory}
use Rattle.iges_directory.proofs.Exact.{read_directory-AreEntries, AreEntries-read_directory, read_directory-IsDirectoryFault, IsDirectoryFault-read_directory}
use Rattle.iges_directory.proofs.law.directory_has_one_reading.Goals as goal

pub returns : goal.returns
returns c = λ s.
    one_reading (AreEntries (length s.param) s.directory) (IsDirectoryFault s) (read_directory s)
    (read_directory-AreEntries s) (AreEntries-read_directory s) (read_directory-IsDirectoryFault s) (IsDirectoryFault-read_directory s)
