use Rattle.std.proofs.Common.{◌≡◌, ◌++◌, drop, flat_map}
use Rattle.mended_commands.specs.Due.{dropped_line}
use Rattle.mended_commands.proofs.remedies.put_dropped.Given as goal

abbrev pub invariant-places : goal.invariant-places
invariant-places l = l.out ++ flat_map dropped_line (drop l.i l.dropped) ≡ l.fn.out ++ flat_map dropped_line l.dropped
