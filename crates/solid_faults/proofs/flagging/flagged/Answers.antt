use Rattle.edge_uses.proofs.Whole.{few_edges, few_vertices}
use Rattle.solid_faults.proofs.Flagged.{flagged_parts}
use Rattle.solid_faults.proofs.flagging.flagged.Goals as goal

pub copied_edges-requires : goal.copied_edges-requires
copied_edges-requires c = few_edges c.args.solid.now c.entity-entity.ensures.numbered

pub copied_vertices-requires : goal.copied_vertices-requires
copied_vertices-requires c = few_vertices c.args.solid.now c.entity-entity.ensures.numbered

pub new-requires : goal.new-requires
new-requires c = flagged_parts c.args.solid.now _ _ _ _ c.entity-entity.ensures.entity c.in_ok-shells.ensures c.in_ok-edges.ensures c.in_ok-vertices.ensures
    c.entity-entity.ensures.numbered
