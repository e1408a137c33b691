use Rattle.std.proofs.Common.{sym}
use Rattle.solid_data.specs.SolidData.{same_flag}
use Rattle.solid_faults.proofs.GapSteps.{loop_step}
use Rattle.solid_faults.proofs.gap.push_face_gaps.Goals as goal

pub loops-preserved : goal.loops-preserved
loops-preserved c =
    loop_step c.args.solid.now c.args.at.0 (same_flag c.args.face.now.flag c.args.shell_flag) c.as_slice-loops.result.now c.index-loops-i.result c.loops.i
    c.loops.out.items c.push_loop_gaps.new.out.items _ c.loops-test.true (sym c.index-loops-i.is) c.loops.invariant
    (c.in_ok-push_loop_gaps.ensures (same_flag c.args.face.now.flag c.args.shell_flag))
