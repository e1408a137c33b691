-- What write_file answers, against what is due.
use Rattle.std.specs.Prelude.{◌≡◌, ℕ, List, Result, Ok, Err}
use Rattle.iges_write.specs.declared.fault.WriteFileFault.{WriteFileFault}
use Rattle.iges_write.specs.declared.fault.WriteFileFault.TheVariants as fault

-- the answer is the one that is due, unless memory ran out
abbrev pub Gives : Result (List ℕ) WriteFileFault → Result (List ℕ) WriteFileFault → Type 0
Gives (Ok bytes) due = Ok bytes ≡ due
Gives (Err fault.TooLarge) due = Err fault.TooLarge ≡ due
Gives (Err fault.NoMemory) due = Unit {0}
