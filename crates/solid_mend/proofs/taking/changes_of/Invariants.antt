use Rattle.std.proofs.Common.{take}
use Rattle.std.specs.List.{AllZip}
use Rattle.solid_mend.specs.Mended.{IsTakenOf}
use Rattle.solid_mend.proofs.taking.changes_of.Given as goal

abbrev pub invariant-shells : goal.invariant-shells
invariant-shells l = AllZip IsTakenOf (take l.i l.found) l.changes
