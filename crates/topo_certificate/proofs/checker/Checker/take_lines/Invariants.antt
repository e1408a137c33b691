use Rattle.std.proofs.Common.{◌≡◌, ◌≤◌, length, None}
use Rattle.cert_state.specs.Progress.{FitsLine}
use Rattle.topo_certificate.specs.Legal.{FitsPart}
use Rattle.topo_certificate.specs.Matching.{IsOfSame}
use Rattle.topo_certificate.proofs.FedLines.{IsLeft}
use Rattle.topo_certificate.proofs.checker.Checker.take_lines.Given as goal

abbrev pub invariant-taken : goal.invariant-taken
invariant-taken l = record {
  left : IsLeft FitsLine l.fn.self l.text l.self l.rest;
  part : IsLeft FitsPart l.fn.self l.text l.self l.rest;
  within : length l.rest ≤ length l.text;
  still : l.self.failed ≡ None;
  same : IsOfSame l.fn.self.checker l.self.checker;
}

abbrev pub decreases-taken : goal.decreases-taken
decreases-taken l = length l.rest
