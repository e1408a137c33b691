use Rattle.std.proofs.Common.{◌≡◌, ◌++◌}
use Rattle.solid_faults.proofs.GapSteps.{found_left}
use Rattle.shell_facts.specs.FaceTable.{shell_touches, touches_of}
use Rattle.shell_facts.proofs.faces.all_touches.Given as goal

abbrev pub invariant-shells : goal.invariant-shells
invariant-shells l = l.out.items ++ found_left (shell_touches l.solid) l.solid.shells l.k ≡ touches_of l.solid
