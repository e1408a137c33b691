use Rattle.solid_faults.proofs.Flagged.{copied_step}
use Rattle.solid_faults.proofs.flagging.copied_vertices.Goals as goal

pub vertices-preserved : goal.vertices-preserved
vertices-preserved c = copied_step c.args.solid.now.vertices c.vertex_at.result c.vertices.v c.vertices.copy c.push.new.self c.vertex_at.ensures
    c.vertices.invariant c.in_ok-push.ensures.ok
