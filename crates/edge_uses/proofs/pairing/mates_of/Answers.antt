use Rattle.std.proofs.Common.{arith}
use Rattle.edge_uses.proofs.Mating.{mate_pushed}
use Rattle.edge_uses.proofs.pairing.mates_of.Goals as goal

pub rows-preserved : goal.rows-preserved
rows-preserved c = record {
  len = omega (arith, c.in_ok-push.ensures.len, c.rows.invariant.len);
  mate = mate_pushed c.args.rows.now c.row_slice-rows.result.now c.args.tally.now.span c.args.tally.now.seen c.rows.i _ c.mate_in.result c.rows.mates.items
      c.push.new.self.items c.row_slice-rows.ensures c.rows-test.true (omega (arith, c.rows.invariant.len))
      c.requires.tally c.requires.span c.requires.whole c.rows.invariant.mate c.mate_in.ensures c.in_ok-push.ensures.items;
}
