use Rattle.std.proofs.Common.{length, ◌-◌}
use Rattle.iges_base.proofs.Mantissas.{IsSoFar}
use Rattle.iges_base.proofs.mantissa.mantissa_of.Given as goal

abbrev pub invariant-bytes : goal.invariant-bytes
invariant-bytes l = IsSoFar l.text l.len l.points l.value

abbrev pub decreases-bytes : goal.decreases-bytes
decreases-bytes l = length l.text - l.len
