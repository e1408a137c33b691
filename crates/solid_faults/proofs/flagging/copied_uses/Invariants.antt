use Rattle.std.proofs.Common.{◌≡◌, ◌++◌, drop}
use Rattle.solid_faults.proofs.flagging.copied_uses.Given as goal

abbrev pub invariant-uses : goal.invariant-uses
invariant-uses l = l.copy ++ drop l.i l.uses ≡ l.uses
