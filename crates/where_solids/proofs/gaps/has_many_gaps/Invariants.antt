use Rattle.std.proofs.Common.{◌≡◌, ◌+◌, take}
use Rattle.where_solids.specs.declared.TheConstants.{GAP_LIMIT}
use Rattle.where_solids.specs.ShellTexts.{gap_count}
use Rattle.where_solids.proofs.gaps.has_many_gaps.Given as goal

abbrev pub invariant-shells : goal.invariant-shells
invariant-shells l = l.left + gap_count (take l.k l.all) ≡ GAP_LIMIT
