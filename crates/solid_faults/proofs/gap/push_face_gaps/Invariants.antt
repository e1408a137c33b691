use Rattle.std.proofs.Common.{◌≡◌, ◌++◌, flat_map}
use Rattle.solid_data.specs.SolidData.{same_flag, placed_in_face}
use Rattle.edge_uses.proofs.Joins.{loops_left}
use Rattle.solid_faults.specs.Gaps.{loop_gaps}
use Rattle.solid_faults.proofs.gap.push_face_gaps.Given as goal

abbrev pub invariant-loops : goal.invariant-loops
invariant-loops l =
    l.out.items ++ flat_map (loop_gaps l.solid) (loops_left l.at.0 (same_flag l.face.flag l.shell_flag) l.loops l.i)
    ≡ l.fn.out.items ++ flat_map (loop_gaps l.solid) (placed_in_face l.shell_flag (l.at.0, l.face))
