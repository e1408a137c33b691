use Rattle.solid_faults.specs.Edges.{shared_failing}
use Rattle.where_solids.proofs.FirstFailing.{first_item}
use Rattle.where_solids.proofs.verdicts.first_shared.Goals as goal

pub returns : goal.returns
returns c = first_item (shared_failing c.args.solid.now) c.args.shared.now _ _ c.in-len1-up.len_at_least c.at_vertex.ensures
