use Rattle.std.proofs.Common.{◌≡◌, drop, ◌++◌}
use Rattle.std.specs.Prelude.{flat_map}
use Rattle.cert_lines.specs.Line.{spelling}
use Rattle.cert_lines.specs.Written.{corner_line}
use Rattle.cert_lines.proofs.writing.put_corners.Given as goal

abbrev pub invariant-corners : goal.invariant-corners
invariant-corners l = l.out ++ flat_map (λ c. spelling (corner_line c)) (drop l.i l.corners) ≡ l.fn.out ++ flat_map (λ c. spelling (corner_line c)) l.corners
