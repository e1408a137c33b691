use Rattle.std.proofs.Common.{length, ◌≤◌}
use Rattle.iges_base.proofs.counting.count_in_blocks.Given as goal

abbrev pub invariant-pieces : goal.invariant-pieces
invariant-pieces l = record { within : length l.rest ≤ length l.text }

abbrev pub decreases-pieces : goal.decreases-pieces
decreases-pieces l = length l.rest
