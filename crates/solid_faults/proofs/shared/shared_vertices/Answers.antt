use Rattle.std.proofs.Common.{flat_map, take}
use Rattle.solid_data.specs.SolidData.{shell_vertices}
use Rattle.solid_faults.proofs.SharedSteps.{occurring_step}
use Rattle.solid_faults.proofs.shared.shared_vertices.Goals as goal

pub vertices-preserved : goal.vertices-preserved
vertices-preserved c s k below =
    occurring_step c.args.rows.now.vertices c.vertices.i c.vertex_at-vertex.result.0 (flat_map (shell_vertices s) (take k s.shells)) c.is_below.result
    c.vertices.out.items c.push_if.new.out.items _ c.vertex_at-vertex.ensures (c.is_below.ensures s k below)
    (c.vertices.invariant s k below) c.in_ok-push_if.ensures
