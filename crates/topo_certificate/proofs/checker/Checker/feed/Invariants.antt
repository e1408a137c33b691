use Rattle.std.proofs.Common.{◌≡◌, length, None}
use Rattle.topo_certificate.specs.Matching.{IsOfSame}
use Rattle.cert_state.specs.Progress.{FitsLine}
use Rattle.topo_certificate.proofs.FedLines.{IsLeft}
use Rattle.topo_certificate.proofs.checker.Checker.feed.Given as goal

abbrev pub invariant-lines : goal.invariant-lines
invariant-lines l = record {
  left : IsLeft FitsLine l.fn.self l.piece l.self l.rest;
  still : l.self.failed ≡ None;
  same : IsOfSame l.fn.self.checker l.self.checker;
}

abbrev pub decreases-lines : goal.decreases-lines
decreases-lines l = length l.rest
