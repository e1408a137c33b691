use Rattle.std.proofs.Common.{◌≡◌, ◌++◌, Bool}
use Rattle.solid_faults.specs.Gaps.{loop_gaps}
use Rattle.solid_faults.proofs.GapSteps.{gaps_left}
use Rattle.solid_faults.proofs.gap.push_loop_gaps.Given as goal

abbrev pub invariant-uses : goal.invariant-uses
invariant-uses l = (f : Bool) → l.out.items ++ gaps_left l.solid (record { at = l.at; forwards = f; loop = l.walk }) l.i ≡ l.fn.out.items
    ++ loop_gaps l.solid (record { at = l.at; forwards = f; loop = l.walk })
