use Rattle.std.proofs.Common.{drop}
use Rattle.std.specs.List.{AllByRecursion}
use Rattle.change_pieces.specs.Filled.{IsFilledLoop}
use Rattle.change_pieces.proofs.uses.is_filled_face.Given as goal

abbrev pub invariant-loops : goal.invariant-loops
invariant-loops l = AllByRecursion IsFilledLoop (drop l.i l.loops) → AllByRecursion IsFilledLoop l.loops
