use Rattle.brep_lists.proofs.Fitting.{vertices_fit}
use Rattle.brep_lists.proofs.vertex_list.VertexList.fitting.Goals as goal

pub invariant_of-result : goal.invariant_of-result
invariant_of-result c = vertices_fit c.known_count.result c.args.values.now c.requires c.known_count.ensures.is c.known_count.ensures.few
