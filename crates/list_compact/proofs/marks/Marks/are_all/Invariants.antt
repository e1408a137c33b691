use Rattle.list_compact.proofs.AllMarked.{AreMarkedTo}
use Rattle.list_compact.proofs.marks.Marks.are_all.Given as goal

abbrev pub invariant-rows : goal.invariant-rows
invariant-rows l = AreMarkedTo l.self l.i
