use Rattle.std.proofs.Common.{◌≡◌, drop, ◌++◌}
use Rattle.std.specs.Prelude.{flat_map}
use Rattle.open_certificate.specs.Line.{spelling}
use Rattle.open_certificate.specs.Written.{border_line}
use Rattle.open_certificate.proofs.writing.put_borders.Given as goal

abbrev pub invariant-borders : goal.invariant-borders
invariant-borders l = l.out ++ flat_map (λ b. spelling (border_line b)) (drop l.i l.borders) ≡ l.fn.out ++ flat_map (λ b. spelling (border_line b)) l.borders
