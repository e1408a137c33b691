use Rattle.open_shells.proofs.HeadCells.{HeadsNoted}
use Rattle.open_shells.proofs.heads.heads_of.Given as goal

abbrev pub invariant-rows : goal.invariant-rows
invariant-rows l = HeadsNoted l.fn.mated l.i l.heads
