use Rattle.std.proofs.Common.{length, ◌≡◌, ◌≤◌, take}
use Rattle.equal_values.specs.Canonical.{before_zeros}
use Rattle.equal_values.proofs.ends.without_end_zeros.Given as goal

abbrev pub invariant-zeros : goal.invariant-zeros
invariant-zeros l = record { within : l.end ≤ length l.text; rest : before_zeros (take l.end l.text) ≡ before_zeros l.text }

abbrev pub decreases-zeros : goal.decreases-zeros
decreases-zeros l = l.end
