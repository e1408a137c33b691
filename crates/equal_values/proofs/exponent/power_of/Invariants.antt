use Rattle.std.proofs.Common.{length, ◌-◌}
use Rattle.equal_values.proofs.Powers.{IsSoFar}
use Rattle.equal_values.proofs.exponent.power_of.Given as goal

abbrev pub invariant-digits : goal.invariant-digits
invariant-digits l = IsSoFar l.digits l.len l.value

abbrev pub decreases-digits : goal.decreases-digits
decreases-digits l = length l.digits - l.len
