use Rattle.std.proofs.Common.{◌≡◌, ◌++◌, ◌-◌, drop, reverse}
use Rattle.orient_certificate.specs.OddRing.{row_numbers}
use Rattle.face_orient.proofs.ring.push_reversed.Given as goal

abbrev pub invariant-path : goal.invariant-path
invariant-path l = row_numbers l.rows ≡ row_numbers l.fn.rows ++ reverse (drop (l.count - l.i) l.path)
