-- What a walk answers.
use Rattle.std.specs.Prelude.{◌≡◌, List, Result, Ok, Err}
use Rattle.solid_data.specs.Obligations.{Obligation, FirstFalse}
use Rattle.solid_data.specs.SolidData.{SolidData}
use Rattle.solid_data.specs.declared.verdict.Failing.{Failing}
use Rattle.brep_walk.specs.declared.fault.WalkFault.{WalkFault}
use Rattle.brep_walk.specs.declared.fault.WalkFault.TheVariants as faults

-- the first false one of the obligations, or that memory ran out
abbrev pub IsFault : List Obligation → WalkFault → Type 0
IsFault os (faults.Fails x) = FirstFalse os x
IsFault os faults.NoMemory = Unit {0}

-- What was answered is this, unless memory ran out.
abbrev pub Gives : Result SolidData WalkFault → Result SolidData Failing → Type 0
Gives (Ok s) due = due ≡ Ok s
Gives (Err (faults.Fails x)) due = due ≡ Err x
Gives (Err faults.NoMemory) due = Unit {0}
