use Rattle.std.proofs.Common.{◌≡◌, ◌++◌}
use Rattle.solid_faults.specs.Edges.{rows_on_edge, row_on}
use Rattle.solid_faults.proofs.GapSteps.{found_left}
use Rattle.solid_faults.proofs.edge.rows_of_edge.Given as goal

abbrev pub invariant-rows : goal.invariant-rows
invariant-rows l = l.out.items ++ found_left (row_on l.edge.0) l.rows.rows l.i ≡ rows_on_edge l.rows l.edge.0
