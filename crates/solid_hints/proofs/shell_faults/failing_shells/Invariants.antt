use Rattle.std.proofs.Common.{◌≡◌, ◌++◌, drop}
use Rattle.solid_hints.specs.AllFaults.{failing_from}
use Rattle.solid_hints.proofs.shell_faults.failing_shells.Given as goal

abbrev pub invariant-shells : goal.invariant-shells
invariant-shells l = l.list.items ++ failing_from l.k (drop l.k l.faults) ≡ failing_from 0 l.faults
