use Rattle.std.proofs.Common.{◌≡◌, drop}
use Rattle.brep_lists.specs.Groups.{tuples_pass}
use Rattle.brep_loops.proofs.loop_record.tuple_count.Given as goal

abbrev pub invariant-tuples : goal.invariant-tuples
invariant-tuples l = tuples_pass l.left (drop l.at l.values) ≡ tuples_pass l.count (drop 1 l.values)

abbrev pub decreases-tuples : goal.decreases-tuples
decreases-tuples l = l.left
