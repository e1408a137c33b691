use Rattle.std.proofs.Common.{drop}
use Rattle.std.specs.List.{AllByRecursion}
use Rattle.change_pieces.specs.Filled.{IsFilledShell}
use Rattle.change_pieces.proofs.uses.are_filled.Given as goal

abbrev pub invariant-shells : goal.invariant-shells
invariant-shells l = AllByRecursion IsFilledShell (drop l.i l.shells) → AllByRecursion IsFilledShell l.shells
