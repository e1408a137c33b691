use Rattle.brep_lists.proofs.Fitting.{edges_fit}
use Rattle.brep_lists.proofs.edge_list.EdgeList.fitting.Goals as goal

pub invariant_of-result : goal.invariant_of-result
invariant_of-result c = edges_fit c.known_count.result c.args.values.now c.requires c.known_count.ensures.is c.known_count.ensures.few
