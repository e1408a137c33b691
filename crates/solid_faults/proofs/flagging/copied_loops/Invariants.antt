use Rattle.std.proofs.Common.{◌≡◌, ◌++◌, drop}
use Rattle.solid_faults.proofs.flagging.copied_loops.Given as goal

abbrev pub invariant-loops : goal.invariant-loops
invariant-loops l = l.copy ++ drop l.i l.loops ≡ l.loops
