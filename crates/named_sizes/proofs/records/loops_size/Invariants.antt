use Rattle.std.proofs.Common.{◌≡◌, ◌≤◌, take}
use Rattle.std.specs.List.{sum_by}
use Rattle.named_sizes.specs.declared.TheConstants.{MOST}
use Rattle.named_sizes.specs.Sizes.{capped, loop_size}
use Rattle.named_sizes.proofs.records.loops_size.Given as goal

abbrev pub invariant-loops : goal.invariant-loops
invariant-loops l = record { within : l.total ≤ MOST; sum : l.total ≡ capped (sum_by (loop_size l.file) (take l.i l.record.loops)) }
