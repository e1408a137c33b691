use Rattle.std.proofs.Common.{drop}
use Rattle.edge_uses.proofs.FirstOf.{LeftIn}
use Rattle.open_certificate.specs.Sound.{IsOnce}
use Rattle.open_shells.proofs.mating.first_not_once.Given as goal

abbrev pub invariant-edges : goal.invariant-edges
invariant-edges l = LeftIn (IsOnce l.rows) (drop l.i l.rows.edges) l.rows.edges
