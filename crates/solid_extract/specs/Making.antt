-- How the extracted file is made, and what a call answers.
use Rattle.std.specs.Prelude.{◌≡◌, ℕ, List, pos, None, Result, Ok, Err, IsSome, filter_map}
use Rattle.iges_params.specs.Contents.{Contents}
use Rattle.iges_params.specs.Named.{named}
use Rattle.entry_references.specs.declared.fault.ExtractReason.{ExtractReason}
use Rattle.entry_references.specs.Refs.{Record}
use Rattle.solid_extract.specs.declared.fault.ExtractFault.{ExtractFault}
use Rattle.solid_extract.specs.declared.fault.ExtractFault.TheVariants as fault
use Rattle.solid_extract.specs.Extracted.{IsRefused}
use Rattle.solid_extract.specs.Flooding.{fault_at}

-- what the numbers name
abbrev pub records_of : Contents → List ℕ → List Record
records_of f ms = filter_map (λ m. named f (pos m)) ms

-- an entry without a fault
abbrev pub IsFaultless : Contents → ℕ → Type 0
IsFaultless f m = IsSome (named f (pos m)) × (fault_at f m ≡ None)

-- the refusal, unless memory ran out
abbrev pub IsExtractFault : Contents → ℕ → ExtractFault → Type 0
IsExtractFault f n (fault.Refused entity reason) = IsRefused f n entity.0 reason
IsExtractFault f n fault.NoMemory = Unit {0}

-- this file is given, unless memory ran out
abbrev pub GivesFile : Result Contents ExtractFault → Contents → Type 0
GivesFile (Ok given) new = given ≡ new
GivesFile (Err (fault.Refused entity reason)) new = ⊥
GivesFile (Err fault.NoMemory) new = Unit {0}

-- this refusal is given, unless memory ran out
abbrev pub GivesRefusal : Result Contents ExtractFault → ℕ → ExtractReason → Type 0
GivesRefusal (Ok given) entity reason = ⊥
GivesRefusal (Err (fault.Refused e r)) entity reason = (e.0 ≡ entity) × (r ≡ reason)
GivesRefusal (Err fault.NoMemory) entity reason = Unit {0}
