use Rattle.cert_state.proofs.PointOrder.{can_check}
use Rattle.topo_certificate.proofs.line_checker.state_of.Goals as goal

pub of-requires-clause-order : goal.of-requires-clause-order
of-requires-clause-order c = (can_check c.args.solid.now c.args.shell c.in_ok-rows.rows c.recall_numbering.ensures.numbered c.requires
    c.in_ok-rows.ensures).order

pub of-requires-clause-some : goal.of-requires-clause-some
of-requires-clause-some c = (can_check c.args.solid.now c.args.shell c.in_ok-rows.rows c.recall_numbering.ensures.numbered c.requires c.in_ok-rows.ensures).some

pub of-requires-clause-few_edges : goal.of-requires-clause-few_edges
of-requires-clause-few_edges c = (can_check c.args.solid.now c.args.shell c.in_ok-rows.rows c.recall_numbering.ensures.numbered c.requires
    c.in_ok-rows.ensures).few_edges

pub of-requires-clause-few_vertices : goal.of-requires-clause-few_vertices
of-requires-clause-few_vertices c = (can_check c.args.solid.now c.args.shell c.in_ok-rows.rows c.recall_numbering.ensures.numbered c.requires
    c.in_ok-rows.ensures).few_vertices
