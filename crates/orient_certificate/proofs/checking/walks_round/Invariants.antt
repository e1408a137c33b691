use Rattle.std.proofs.Common.{drop, true, false, ◌↔◌}
use Rattle.orient_certificate.specs.OddRing.{row_numbers}
use Rattle.orient_certificate.specs.Crossings.{Walk}
use Rattle.orient_certificate.proofs.checking.walks_round.Given as goal

abbrev pub invariant-rows : goal.invariant-rows
invariant-rows l = Walk l.crossings l.face l.odd (row_numbers (drop l.i l.rows)) l.start true ↔ Walk l.crossings l.start false (row_numbers l.rows) l.start true
