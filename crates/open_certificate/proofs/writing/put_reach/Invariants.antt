use Rattle.std.proofs.Common.{◌≡◌, drop, ◌++◌}
use Rattle.std.specs.Prelude.{flat_map}
use Rattle.open_certificate.specs.Line.{spelling}
use Rattle.open_certificate.specs.Written.{reach_line}
use Rattle.open_certificate.proofs.writing.put_reach.Given as goal

abbrev pub invariant-rows : goal.invariant-rows
invariant-rows l = l.out ++ flat_map (λ r. spelling (reach_line r)) (drop l.i l.rows) ≡ l.fn.out ++ flat_map (λ r. spelling (reach_line r)) l.rows
