use Rattle.std.proofs.Common.{sym}
use Rattle.solid_faults.proofs.GapSteps.{face_step}
use Rattle.solid_faults.proofs.gap.push_shell_gaps.Goals as goal

pub faces-preserved : goal.faces-preserved
faces-preserved c =
    face_step c.args.solid.now c.args.shell.now.flag c.as_slice-faces.result.now c.index-faces-i.result c.faces.i c.faces.out.items
    c.push_face_gaps.new.out.items _ c.faces-test.true (sym c.index-faces-i.is) c.faces.invariant c.in_ok-push_face_gaps.ensures
