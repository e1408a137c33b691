use Rattle.std.proofs.Common.{◌≡◌, ◌+◌, ◌++◌, ◌≤◌, length}
use Rattle.line_layout.specs.Counts.{AreFew}
use Rattle.line_layout.specs.Relaid.{before, laid, pieces}
use Rattle.line_layout.specs.Strays.{strays_from}
use Rattle.line_layout.proofs.Looping.{laid_lines, strays_in}
use Rattle.line_layout.proofs.relaying.relaid.Given as goal

abbrev pub invariant-pieces : goal.invariant-pieces
invariant-pieces l = record {
  few : AreFew l.counts;
  numbers : l.number + length l.left ≤ 164000001;
  same : before l.out (laid (pieces l.ending l.left) l.number l.counts) ≡ laid_lines l.bytes;
  noted : l.strays.items ++ strays_from (pieces l.ending l.left) l.number l.counts ≡ strays_in l.bytes;
}

abbrev pub decreases-pieces : goal.decreases-pieces
decreases-pieces l = length l.left
