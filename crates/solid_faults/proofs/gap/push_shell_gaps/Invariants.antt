use Rattle.std.proofs.Common.{◌≡◌, ◌++◌, flat_map}
use Rattle.edge_uses.proofs.Joins.{faces_left}
use Rattle.solid_faults.specs.Gaps.{loop_gaps, gaps_of}
use Rattle.solid_faults.proofs.gap.push_shell_gaps.Given as goal

abbrev pub invariant-faces : goal.invariant-faces
invariant-faces l = l.out.items ++ flat_map (loop_gaps l.solid) (faces_left l.shell.flag l.faces l.i) ≡ l.fn.out.items ++ gaps_of l.solid l.shell
