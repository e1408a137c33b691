use Rattle.std.proofs.Common.{◌≡◌, ◌+◌, drop}
use Rattle.cert_state.specs.Uses.{loops_size}
use Rattle.cert_state.proofs.uses.uses_of_face.Given as goal

abbrev pub invariant-loops : goal.invariant-loops
invariant-loops l = l.count + loops_size (drop l.i l.loops) ≡ loops_size l.face.loops
