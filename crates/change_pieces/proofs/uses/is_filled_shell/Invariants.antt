use Rattle.std.proofs.Common.{drop}
use Rattle.std.specs.List.{AllByRecursion}
use Rattle.change_pieces.specs.Filled.{IsFilledFace}
use Rattle.change_pieces.proofs.uses.is_filled_shell.Given as goal

abbrev pub invariant-faces : goal.invariant-faces
invariant-faces l = AllByRecursion IsFilledFace (drop l.i l.faces) → AllByRecursion IsFilledFace l.faces
