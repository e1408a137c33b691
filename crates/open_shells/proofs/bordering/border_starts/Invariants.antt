use Rattle.open_shells.proofs.HeadCells.{BordersNoted}
use Rattle.open_shells.proofs.bordering.border_starts.Given as goal

abbrev pub invariant-rows : goal.invariant-rows
invariant-rows l = BordersNoted l.fn.mated l.i l.starts
