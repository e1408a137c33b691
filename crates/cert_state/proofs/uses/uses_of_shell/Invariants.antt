use Rattle.std.proofs.Common.{◌≡◌, ◌+◌, drop}
use Rattle.cert_state.specs.Uses.{faces_size}
use Rattle.cert_state.proofs.uses.uses_of_shell.Given as goal

abbrev pub invariant-faces : goal.invariant-faces
invariant-faces l = l.count + faces_size (drop l.i l.faces) ≡ faces_size l.shell.faces
