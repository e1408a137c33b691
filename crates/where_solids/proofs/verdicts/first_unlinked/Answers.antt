use Rattle.where_solids.proofs.FirstFailing.{first_unlinked}
use Rattle.where_solids.proofs.verdicts.first_unlinked.Goals as goal

pub returns : goal.returns
returns c = rw c.in-Some.is
    (first_unlinked c.args.solid.now c.in-Some.linking.now c.unlinked.result.now _ _ c.unlinked.ensures c.in-len1-up.len_at_least c.at_vertex.ensures)
