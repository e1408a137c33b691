use Rattle.std.proofs.Common.{◌≡◌, ◌++◌, drop}
use Rattle.solid_faults.proofs.flagging.copied_edges.Given as goal

abbrev pub invariant-edges : goal.invariant-edges
invariant-edges l = l.copy ++ drop l.e l.solid.edges ≡ l.solid.edges
