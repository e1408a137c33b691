-- What a pass over a file answers, against what is to be read.
use Rattle.std.specs.Prelude.{◌≡◌, Result, Ok, Err}
use Rattle.iges_lines.specs.declared.fault.LineFault.{LineFault}
use Rattle.iges_lines.specs.declared.fault.PassFault.{PassFault}
use Rattle.iges_lines.specs.declared.fault.PassFault.TheVariants as faults

abbrev pub Fails : {Y : Type 0} → PassFault → Result Y LineFault → Type 0
Fails faults.NoMemory read = Unit {0}
Fails (faults.Bad fault) read = read ≡ Err fault

-- What was answered is what reading gives, unless memory ran out.
abbrev pub Gives : {Y : Type 0} → Result Y PassFault → Result Y LineFault → Type 0
Gives (Ok x) read = read ≡ Ok x
Gives (Err e) read = Fails e read

-- P holds of the fault, where a line has one
abbrev pub IfBad : {X : Type 0} → Result X PassFault → (LineFault → Type 0) → Type 0
IfBad (Ok x) P = Unit {0}
IfBad (Err (faults.Bad fault)) P = P fault
IfBad (Err faults.NoMemory) P = Unit {0}
