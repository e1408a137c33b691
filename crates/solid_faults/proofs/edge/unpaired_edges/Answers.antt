use Rattle.solid_faults.specs.Edges.{edge_unpaired}
use Rattle.solid_faults.proofs.GapSteps.{plain_step}
use Rattle.solid_faults.proofs.Counted.{counted_edge}
use Rattle.solid_faults.proofs.edge.unpaired_edges.Goals as goal

pub edges-preserved : goal.edges-preserved
edges-preserved c =
    plain_step (edge_unpaired c.args.rows.now) c.args.rows.now.edges c.edge_at-edge.result.0 c.edges.i c.edges.out.items c.push_unpaired.new.out.items _
    c.edge_at-edge.ensures c.edges.invariant
    (counted_edge c.args.rows.now c.in_ok-tally.tally.span c.in_ok-tally.tally.seen c.edges.i c.edge_at-edge.result.0 c.of-seen.result c.edges.out.items
    c.push_unpaired.new.out.items c.in_ok-tally.ensures.span
    c.in_ok-tally.ensures.tally c.edge_at-edge.ensures c.of-seen.ensures c.in_ok-push_unpaired.ensures)
