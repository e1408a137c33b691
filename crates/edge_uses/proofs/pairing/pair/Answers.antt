use Rattle.edge_uses.proofs.Mating.{rows_within}
use Rattle.edge_uses.proofs.pairing.pair.Goals as goal

pub mates_of-requires-clause-span : goal.mates_of-requires-clause-span
mates_of-requires-clause-span c = rows_within c.args.rows.now.edges c.args.rows.now.rows c.in_ok-tally.tally.span c.in_ok-tally.ensures.kept.edges_hold
    c.in_ok-tally.ensures.span.holds
