-- What a call answers, against what is due.
use Rattle.std.specs.Prelude.{◌≡◌, ℤ, List, Result, Ok, Err}
use Rattle.entry_references.specs.declared.fault.ExtractReason.{ExtractReason}
use Rattle.entry_references.specs.declared.fault.ExtractReason.TheVariants as reason
use Rattle.entry_references.specs.declared.fault.RefFault.{RefFault}
use Rattle.entry_references.specs.declared.fault.RefFault.TheVariants as fault

-- the fault is this one, unless memory ran out
abbrev pub TellsFault : {T : Type 0} → RefFault → Result T ExtractReason → Type 0
TellsFault fault.Unlisted due = due ≡ Err reason.Unlisted
TellsFault fault.Layout due = due ≡ Err reason.Layout
TellsFault fault.Dangling due = due ≡ Err reason.Dangling
TellsFault fault.NoMemory due = Unit {0}

-- what was answered is what is due, unless memory ran out
abbrev pub GivesRefs : Result (List ℤ) RefFault → Result (List ℤ) ExtractReason → Type 0
GivesRefs (Ok numbers) due = due ≡ Ok numbers
GivesRefs (Err e) due = TellsFault e due
