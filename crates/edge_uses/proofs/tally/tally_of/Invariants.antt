use Rattle.edge_uses.proofs.Tallies.{TallyBefore}
use Rattle.edge_uses.proofs.tally.tally_of.Given as goal

abbrev pub invariant-rows : goal.invariant-rows
invariant-rows l = TallyBefore l.fn.rows l.i l.cells
