use Rattle.std.proofs.Common.{◌≤◌, ◌-◌, length}
use Rattle.topo_certificate.specs.OpeningFed.{IsWaiting}
use Rattle.topo_certificate.proofs.OpeningLines.{IsFedTo}
use Rattle.topo_certificate.proofs.opening.Opening.feed_lines.Given as goal

abbrev pub invariant-lines : goal.invariant-lines
invariant-lines l = record {
  within : l.used ≤ length l.piece;
  waiting : IsWaiting l.self.stage;
  fed : IsFedTo l.fn.self l.piece l.self l.used;
}

abbrev pub decreases-lines : goal.decreases-lines
decreases-lines l = length l.piece - l.used
