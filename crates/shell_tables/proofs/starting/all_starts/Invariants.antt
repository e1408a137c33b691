use Rattle.shell_tables.proofs.StartCells.{RowsNoted}
use Rattle.shell_tables.proofs.starting.all_starts.Given as goal

abbrev pub invariant-rows : goal.invariant-rows
invariant-rows l = RowsNoted l.fn.rows l.i l.starts
