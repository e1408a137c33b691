use Rattle.std.proofs.Common.{length, ◌-◌}
use Rattle.iges_base.proofs.Columns.{AreDigits}
use Rattle.iges_base.proofs.column.number_of_digits.Given as goal

abbrev pub invariant-bytes : goal.invariant-bytes
invariant-bytes l = AreDigits l.text l.at l.number

abbrev pub decreases-bytes : goal.decreases-bytes
decreases-bytes l = length l.text - l.at
