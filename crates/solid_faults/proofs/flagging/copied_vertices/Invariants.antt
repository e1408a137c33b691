use Rattle.std.proofs.Common.{◌≡◌, ◌++◌, drop}
use Rattle.solid_faults.proofs.flagging.copied_vertices.Given as goal

abbrev pub invariant-vertices : goal.invariant-vertices
invariant-vertices l = l.copy ++ drop l.v l.solid.vertices ≡ l.solid.vertices
