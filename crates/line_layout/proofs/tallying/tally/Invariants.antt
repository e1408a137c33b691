use Rattle.std.proofs.Common.{◌≡◌, ◌+◌, ◌<◌, ◌≤◌, length}
use Rattle.line_layout.specs.Changes.{changed_from, changed_lines, cuts, tally_of}
use Rattle.line_layout.specs.Counts.{AreFew}
use Rattle.line_layout.proofs.Joined.{joined}
use Rattle.line_layout.proofs.tallying.tally.Given as goal

abbrev pub invariant-pieces : goal.invariant-pieces
invariant-pieces l = record {
  few : AreFew l.counts;
  numbers : l.number + length l.left ≤ 164000001;
  small : l.found.times < l.number;
  same : joined l.found (changed_from l.change (cuts l.ending l.left) l.number l.counts) ≡ tally_of (changed_lines l.change l.bytes);
}

abbrev pub decreases-pieces : goal.decreases-pieces
decreases-pieces l = length l.left
