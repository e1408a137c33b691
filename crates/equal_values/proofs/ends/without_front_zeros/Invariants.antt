use Rattle.std.proofs.Common.{length, ◌-◌, ◌≡◌, ◌≤◌, drop}
use Rattle.equal_values.specs.Canonical.{after_zeros}
use Rattle.equal_values.proofs.ends.without_front_zeros.Given as goal

abbrev pub invariant-zeros : goal.invariant-zeros
invariant-zeros l = record { within : l.at ≤ length l.text; rest : after_zeros (drop l.at l.text) ≡ after_zeros l.text }

abbrev pub decreases-zeros : goal.decreases-zeros
decreases-zeros l = length l.text - l.at
