use Rattle.solid_faults.proofs.FanSteps.{FansBefore}
use Rattle.solid_faults.proofs.unlinking.fan_counts.Given as goal

abbrev pub invariant-rows : goal.invariant-rows
invariant-rows l = FansBefore l.rows l.leasts l.i l.counts
