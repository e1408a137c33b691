use Rattle.std.proofs.Common.{length, ◌-◌}
use Rattle.iges_base.specs.FrontDigits.{IsDigitsSoFar}
use Rattle.iges_base.proofs.leading_digits.with_others.Given as goal

abbrev pub invariant-digits : goal.invariant-digits
invariant-digits l = IsDigitsSoFar l.text l.so_far.len l.so_far.value

abbrev pub decreases-digits : goal.decreases-digits
decreases-digits l = length l.text - l.so_far.len
