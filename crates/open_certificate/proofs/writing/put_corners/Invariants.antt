use Rattle.std.proofs.Common.{◌≡◌, drop, ◌++◌}
use Rattle.std.specs.Prelude.{flat_map}
use Rattle.open_certificate.specs.Line.{spelling}
use Rattle.open_certificate.specs.Written.{corner_line}
use Rattle.open_certificate.proofs.writing.put_corners.Given as goal

abbrev pub invariant-corners : goal.invariant-corners
invariant-corners l = l.out ++ flat_map (λ l. spelling (corner_line l)) (drop l.i l.corners) ≡ l.fn.out ++ flat_map (λ l. spelling (corner_line l)) l.corners
