use Rattle.iges_lines.specs.LineFaults.{IsLineFault}
use Rattle.iges_lines.specs.Reading.{read_sections}
use Rattle.iges_lines.specs.Sectioned.{IsSectioned}
use Rattle.iges_lines.proofs.Exact.{read_sections-IsSectioned, IsSectioned-read_sections, read_sections-IsLineFault, IsLineFault-read_sections}
use Rattle.iges_lines.proofs.OneAnswer.{one_reading}
use Rattle.iges_lines.proofs.law.lines_have_one_reading.Goals as goal

pub returns : goal.returns
returns c = λ bytes.
    one_reading (IsSectioned bytes) (IsLineFault bytes) (read_sections bytes)
    (read_sections-IsSectioned bytes) (IsSectioned-read_sections bytes) (read_sections-IsLineFault bytes) (IsLineFault-read_sections bytes)
