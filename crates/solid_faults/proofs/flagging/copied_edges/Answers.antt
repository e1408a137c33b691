use Rattle.solid_faults.proofs.Flagged.{copied_step}
use Rattle.solid_faults.proofs.flagging.copied_edges.Goals as goal

pub edges-preserved : goal.edges-preserved
edges-preserved c = copied_step c.args.solid.now.edges c.edge_at.result c.edges.e c.edges.copy c.push.new.self c.edge_at.ensures c.edges.invariant
    c.in_ok-push.ensures.ok
