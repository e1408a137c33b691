use Rattle.std.proofs.Common.{◌≡◌, ◌++◌, drop, map}
use Rattle.solid_faults.specs.FaceFlags.{flagged_shell}
use Rattle.solid_faults.proofs.flagging.flagged_shells.Given as goal

abbrev pub invariant-shells : goal.invariant-shells
invariant-shells l = l.copy ++ map flagged_shell (drop l.k l.solid.shells) ≡ map flagged_shell l.solid.shells
