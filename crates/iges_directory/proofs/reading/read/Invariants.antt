use Rattle.iges_directory.proofs.Going.{IsRead}
use Rattle.iges_directory.proofs.reading.read.Given as goal

abbrev pub invariant-entries : goal.invariant-entries
invariant-entries l = IsRead l.s l.i l.entries.items
