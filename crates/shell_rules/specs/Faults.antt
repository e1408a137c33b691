-- Why a solid doesn't pass.
use Rattle.std.specs.Prelude.{◌≡◌, List, ⊤, Result, Ok, Err}
use Rattle.solid_data.specs.Obligations.{Obligation, FirstFalse}
use Rattle.solid_data.specs.declared.verdict.Failing.{Failing}
use Rattle.shell_rules.specs.declared.fault.CheckFault.{CheckFault}
use Rattle.shell_rules.specs.declared.fault.CheckFault.TheVariants.{Fails, NoMemory}

-- the first false one of the obligations, or that memory ran out
abbrev pub IsCheckFault : List Obligation → CheckFault → Type 0
IsCheckFault os (Fails x) = FirstFalse os x
IsCheckFault os NoMemory = ⊤

-- nothing but that memory ran out
abbrev pub IsNoMemory : CheckFault → Type 0
IsNoMemory (Fails x) = ⊥
IsNoMemory NoMemory = ⊤

-- It fails so, unless memory ran out.
abbrev pub FailsSo : {A : Type 0} → Failing → Result A CheckFault → Type 0
FailsSo x (Ok made) = ⊥
FailsSo x (Err (Fails y)) = y ≡ x
FailsSo x (Err NoMemory) = ⊤
