use Rattle.std.proofs.Common.{◌≡◌, ◌+◌, drop}
use Rattle.cert_state.specs.Uses.{shells_size}
use Rattle.cert_state.proofs.uses.use_count.Given as goal

abbrev pub invariant-shells : goal.invariant-shells
invariant-shells l = l.count + shells_size (drop l.k l.solid.shells) ≡ shells_size l.solid.shells
