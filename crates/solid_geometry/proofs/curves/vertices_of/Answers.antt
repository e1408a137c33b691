use Rattle.solid_geometry.proofs.ListSteps.{copy_next}
use Rattle.solid_geometry.proofs.curves.vertices_of.Goals as goal

pub vertices-preserved : goal.vertices-preserved
vertices-preserved c = copy_next c.args.solid.now.vertices c.vertices.i c.vertex_at.result c.vertices.vertices.items c.push.new.self.items c.vertex_at.ensures c.vertices.invariant c.in_ok-push.ensures.items
