use Rattle.std.proofs.Common.{take}
use Rattle.std.specs.List.{AllByRecursion}
use Rattle.iges_write.specs.Writable.{IsHeld}
use Rattle.mend_commands.proofs.writable.recall_writable.Given as goal

abbrev pub invariant-entries : goal.invariant-entries
invariant-entries l = AllByRecursion IsHeld (take l.i l.file.entries)
