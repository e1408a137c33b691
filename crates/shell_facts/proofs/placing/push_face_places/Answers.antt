use Rattle.std.proofs.Common.{sym, ◌++◌, ◌∙◌, ap}
use Rattle.solid_data.specs.SolidData.{same_flag}
use Rattle.edge_uses.specs.Joining.{placed_at}
use Rattle.shell_facts.specs.RowPlaces.{loop_places}
use Rattle.shell_facts.proofs.Placed.{placed_step}
use Rattle.shell_facts.proofs.placing.push_face_places.Goals as goal

pub loops-preserved : goal.loops-preserved
loops-preserved c =
    placed_step (loop_places c.args.solid.now c.args.face.now) c.args.at (same_flag c.args.face.now.flag c.args.shell_flag) c.as_slice-loops.result.now
    c.index-loops-i.result c.loops.i c.loops.out.items c.push_loop_places.new.out.items _ c.loops-test.true
    (sym c.index-loops-i.is) c.loops.invariant
    (c.in_ok-push_loop_places.ensures (record { face = record { 0 = c.args.at }; place = c.loops.i })
    ∙ ap (λ b. c.loops.out.items ++ loop_places c.args.solid.now c.args.face.now (placed_at c.args.at b (c.loops.i, c.index-loops-i.result)))
    c.same_flags-forwards.ensures)
