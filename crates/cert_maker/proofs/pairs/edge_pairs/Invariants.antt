use Rattle.cert_maker.specs.Certified.{AreItsRows}
use Rattle.cert_maker.proofs.Zipping.{AgreeUpTo}
use Rattle.cert_maker.proofs.pairs.edge_pairs.Given as goal

abbrev pub invariant-edges : goal.invariant-edges
invariant-edges l = AgreeUpTo (AreItsRows l.paired) l.paired.edges l.i l.pairs
