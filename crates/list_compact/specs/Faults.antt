-- The faults of a call as faults of compacting.
use Rattle.std.specs.Prelude.{◌≡◌}
use Rattle.brep_walk.specs.declared.fault.WalkFault.{WalkFault}
use Rattle.brep_walk.specs.declared.fault.WalkFault.TheVariants as walk
use Rattle.solid_extract.specs.declared.fault.ExtractFault.{ExtractFault}
use Rattle.solid_extract.specs.declared.fault.ExtractFault.TheVariants as extraction
use Rattle.list_compact.specs.declared.fault.CompactFault.{CompactFault}
use Rattle.list_compact.specs.declared.fault.CompactFault.TheVariants.{Refused, Fails, NoMemory}

abbrev pub IsExtraction : ExtractFault → CompactFault → Type 0
IsExtraction (extraction.Refused entity reason) fault = fault ≡ Refused entity reason
IsExtraction extraction.NoMemory fault = fault ≡ NoMemory

abbrev pub IsWalk : WalkFault → CompactFault → Type 0
IsWalk (walk.Fails x) fault = fault ≡ Fails x
IsWalk walk.NoMemory fault = fault ≡ NoMemory
