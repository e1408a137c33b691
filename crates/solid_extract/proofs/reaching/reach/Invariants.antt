use Rattle.std.proofs.Common.{◌≡◌, ◌-◌, length}
use Rattle.solid_extract.proofs.FloodSteps.{IsFlooding}
use Rattle.solid_extract.proofs.reaching.reach.Given as goal

abbrev pub invariant-entries : goal.invariant-entries
invariant-entries l = record {
  flooding : IsFlooding l.file l.fn.no.0 l.next l.reached.numbers l.refusal;
  size : l.reached.size ≡ length l.file.entries;
}

abbrev pub decreases-entries : goal.decreases-entries
decreases-entries l = length l.file.entries - l.next
