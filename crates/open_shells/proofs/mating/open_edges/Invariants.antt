use Rattle.std.proofs.Common.{drop, List, ◌++◌}
use Rattle.std.specs.List.{AllZip}
use Rattle.open_shells.specs.Mating.{AreRowsOf}
use Rattle.open_certificate.specs.declared.parts.OpenEdge.{OpenEdge}
use Rattle.open_shells.proofs.mating.open_edges.Given as goal

abbrev pub invariant-edges : goal.invariant-edges
invariant-edges l = (rest : List OpenEdge) → AllZip (AreRowsOf l.rows) (drop l.i l.rows.edges) rest → AllZip (AreRowsOf l.rows) l.rows.edges (l.edges ++ rest)
