-- The line and the reason for which bytes are no file: the first of four passes that fails, and the first fault in it.
use Rattle.std.specs.Prelude.{◌≡◌, ◌⊎◌, ℕ, List, length}
use Rattle.iges_lines.specs.declared.fault.LineFault.{LineFault}
use Rattle.iges_lines.specs.Lines.{SectionLines}
use Rattle.iges_lines.specs.Sectioned.{IsSectioned}
use Rattle.iges_lines.specs.LineFaults.{IsLineFault}
use Rattle.iges_directory.specs.declared.entry.Placed.{Placed}
use Rattle.iges_directory.specs.Entries.{AreEntries}
use Rattle.iges_directory.specs.DirectoryFaults.{IsDirectoryFault}
use Rattle.iges_params.specs.declared.global.Global26.{Global26}
use Rattle.iges_params.specs.Contents.{Contents}
use Rattle.iges_params.specs.Global.{global_text, GlobalText, GlobalFault}
use Rattle.iges_params.specs.Records.{IsRecordFault}
use Rattle.iges_params.specs.IsFile.{IsFile}

pub data Refusal (bytes : List ℕ) (fault : LineFault) : Type 0 where
  in_lines : IsLineFault bytes fault → Refusal bytes fault
  in_global : (s : SectionLines) → IsSectioned bytes s → GlobalFault s fault.reason fault.line → Refusal bytes fault
  in_directory : (s : SectionLines) (g : Global26) → IsSectioned bytes s → GlobalText (global_text s) g → IsDirectoryFault s fault → Refusal bytes fault
  in_records : (s : SectionLines) (g : Global26) (ps : List Placed) → IsSectioned bytes s → GlobalText (global_text s) g
      → AreEntries (length s.param) s.directory ps → IsRecordFault s g.delims ps fault → Refusal bytes fault

-- ---- one reading

abbrev pub IsOnly : {X : Type 0} → (X → Type 0) → X → Type 0
IsOnly {X} P x = P x × ((y : X) → P y → y ≡ x)

-- exactly one file and no refusal, or no file and exactly one line and reason
abbrev pub HasOneReading : List ℕ → Type 0
HasOneReading bytes =
    ((f : Contents) × IsOnly (IsFile bytes) f × ((fault : LineFault) → ¬ Refusal bytes fault))
    ⊎ ((fault : LineFault) × IsOnly (Refusal bytes) fault × ((f : Contents) → ¬ IsFile bytes f))

abbrev pub OneReading : Type 0
OneReading = (bytes : List ℕ) → HasOneReading bytes
