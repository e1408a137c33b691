-- The compacted file of one solid, and what a call answers.
use Rattle.std.specs.Prelude.{◌≡◌, ℕ, Result, Ok, Err}
use Rattle.iges_params.specs.Contents.{Contents}
use Rattle.brep_walk.specs.Places.{places}
use Rattle.solid_data.specs.Obligations.{AllHold, FirstFalse}
use Rattle.solid_data.specs.declared.verdict.Failing.{Failing}
use Rattle.entry_references.specs.declared.fault.ExtractReason.{ExtractReason}
use Rattle.solid_extract.specs.Extracted.{new_number, IsExtracted, IsRefused}
use Rattle.list_compact.specs.declared.fault.CompactFault.{CompactFault}
use Rattle.list_compact.specs.declared.fault.CompactFault.TheVariants as fault
use Rattle.list_compact.specs.Dropped.{dropped}

-- The solid n is extracted, its places hold, and once the unused items are dropped it is extracted again.
pub record IsCompacted (f : Contents) (n : ℕ) (new : Contents) : Type 0 where
  pub «between» : Contents
  pub extracted : IsExtracted f n «between»
  pub places : AllHold (places f n)
  pub again : IsExtracted (dropped «between») (new_number extracted.kept n) new

-- It is extracted, and this is the first of its places that is false.
pub record IsMisplaced (f : Contents) (n : ℕ) (x : Failing) : Type 0 where
  pub «between» : Contents
  pub extracted : IsExtracted f n «between»
  pub places : FirstFalse (places f n) x

-- the refusal of the extraction, or the first false place, unless memory ran out
abbrev pub IsCompactFault : Contents → ℕ → CompactFault → Type 0
IsCompactFault f n (fault.Refused entity reason) = IsRefused f n entity.0 reason
IsCompactFault f n (fault.Fails x) = IsMisplaced f n x
IsCompactFault f n fault.NoMemory = Unit {0}

-- this file is given, unless memory ran out
abbrev pub GivesFile : Result Contents CompactFault → Contents → Type 0
GivesFile (Ok given) new = given ≡ new
GivesFile (Err (fault.Refused entity reason)) new = ⊥
GivesFile (Err (fault.Fails x)) new = ⊥
GivesFile (Err fault.NoMemory) new = Unit {0}

-- this refusal is given, unless memory ran out
abbrev pub GivesRefusal : Result Contents CompactFault → ℕ → ExtractReason → Type 0
GivesRefusal (Ok given) entity reason = ⊥
GivesRefusal (Err (fault.Refused e r)) entity reason = (e.0 ≡ entity) × (r ≡ reason)
GivesRefusal (Err (fault.Fails x)) entity reason = ⊥
GivesRefusal (Err fault.NoMemory) entity reason = Unit {0}

-- this place is given, unless memory ran out
abbrev pub GivesPlace : Result Contents CompactFault → Failing → Type 0
GivesPlace (Ok given) due = ⊥
GivesPlace (Err (fault.Refused e r)) due = ⊥
GivesPlace (Err (fault.Fails x)) due = x ≡ due
GivesPlace (Err fault.NoMemory) due = Unit {0}
