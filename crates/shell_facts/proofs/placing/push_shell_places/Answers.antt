use Rattle.std.proofs.Common.{sym}
use Rattle.shell_facts.specs.RowPlaces.{face_places}
use Rattle.solid_faults.proofs.GapSteps.{item_step}
use Rattle.shell_facts.proofs.placing.push_shell_places.Goals as goal

pub faces-preserved : goal.faces-preserved
faces-preserved c =
    item_step (face_places c.args.solid.now c.args.shell.now.flag) c.as_slice-faces.result.now c.index-faces-i.result c.faces.i c.faces.out.items
    c.push_face_places.new.out.items _ c.faces-test.true (sym c.index-faces-i.is) c.faces.invariant c.in_ok-push_face_places.ensures
