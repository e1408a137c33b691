use Rattle.std.proofs.Common.{map}
use Rattle.shell_reach.specs.Reaching.{row_numbers}
use Rattle.open_shells.specs.BorderParts.{IsBordering}
use Rattle.open_shells.proofs.bordering.cycles_of.Given as goal

abbrev pub invariant-rows : goal.invariant-rows
invariant-rows l = IsBordering l.mated l.r l.seen.items (map row_numbers l.cycles)
