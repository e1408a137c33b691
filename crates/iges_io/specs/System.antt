-- Files of the system as sources.
use Rattle.std.specs.Prelude.{ℕ, List, [], Option, Some, None}
use Rattle.iges_io.specs.declared.system.Opened.{Opened}
use Rattle.iges_io.specs.declared.system.Opened.TheVariants as opened

-- what a source reads from, and how often a read of it has failed
pub record FileSource (F : Type 0) : Type 0 where
  pub file : Opened F
  pub faults : ℕ

-- The bytes that are left: those that the reader makes known, none where there is no file, and unknown where it can't be opened.
abbrev pub left_of : {F : Type 0} → (F → Option (List ℕ)) → Opened F → Option (List ℕ)
left_of remaining (opened.File f) = remaining f
left_of remaining opened.Refused = None
left_of remaining opened.Absent = Some []

-- a writer as a sink, and how often a write to it has failed
pub record WriterSink (W : Type 0) : Type 0 where
  pub writer : W
  pub faults : ℕ
