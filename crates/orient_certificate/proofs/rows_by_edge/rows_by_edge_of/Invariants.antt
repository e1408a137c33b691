use Rattle.orient_certificate.proofs.Tallying.{TallyBefore}
use Rattle.orient_certificate.proofs.rows_by_edge.rows_by_edge_of.Given as goal

abbrev pub invariant-rows : goal.invariant-rows
invariant-rows l = TallyBefore l.fn.rows l.i l.cells
