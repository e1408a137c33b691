use Rattle.std.proofs.Common.{drop}
use Rattle.orient_certificate.specs.Partners.{HasTwoRows}
use Rattle.edge_uses.proofs.FirstOf.{LeftIn}
use Rattle.orient_certificate.proofs.rows_by_edge.first_miscounted.Given as goal

abbrev pub invariant-edges : goal.invariant-edges
invariant-edges l = LeftIn (HasTwoRows l.fn.rows) (drop l.i l.rows.edges) l.rows.edges
