use Rattle.std.proofs.Common.{◌≡◌, ◌++◌}
use Rattle.std.specs.Prelude.{replicate}
use Rattle.value_lines.proofs.lines.put_times.Given as goal

abbrev pub invariant-times : goal.invariant-times
invariant-times l = l.out ++ replicate l.left l.byte ≡ l.fn.out ++ replicate l.count l.byte

abbrev pub decreases-times : goal.decreases-times
decreases-times l = l.left
