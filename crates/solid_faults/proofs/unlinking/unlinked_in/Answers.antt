use Rattle.solid_faults.specs.Fans.{vertex_unlinked}
use Rattle.solid_faults.proofs.FanSteps.{unlinked_pushed, vertex_within}
use Rattle.solid_faults.proofs.GapSteps.{plain_step}
use Rattle.solid_faults.proofs.unlinking.unlinked_in.Goals as goal

pub vertices-preserved : goal.vertices-preserved
vertices-preserved c =
    plain_step (vertex_unlinked c.args.rows.now c.args.leasts.now) c.args.rows.now.vertices c.vertex_at-vertex.result.0 c.vertices.i c.vertices.out.items
    c.push_unlinked.new.out.items _ c.vertex_at-vertex.ensures c.vertices.invariant
    (unlinked_pushed c.args.rows.now c.args.leasts.now c.args.fans.now c.args.points.now c.vertices.i c.vertex_at-vertex.result.0 c.count_at.result
    c.count_at-in-vertices.result c.vertices.out.items c.push_unlinked.new.out.items c.requires.on_fans c.requires.fans c.requires.on_points
    c.requires.points
    c.vertex_at-vertex.ensures c.count_at.ensures c.count_at-in-vertices.ensures c.in_ok-push_unlinked.ensures)

pub count_at-requires-in-vertices-clause-within : goal.count_at-requires-in-vertices-clause-within
count_at-requires-in-vertices-clause-within c = vertex_within c.args.rows.now c.args.points.now.span c.vertices.i c.vertex_at-vertex.result.0
    c.requires.on_points.span c.vertex_at-vertex.ensures
