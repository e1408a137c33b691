use Rattle.std.proofs.Common.{◌≡◌, ◌++◌, map, take}
use Rattle.orient_certificate.specs.OddRing.{row_numbers}
use Rattle.orient_certificate.specs.Crossings.{partner_of}
use Rattle.face_orient.proofs.ring.push_partners.Given as goal

abbrev pub invariant-path : goal.invariant-path
invariant-path l = row_numbers l.rows ≡ row_numbers l.fn.rows ++ map (partner_of l.crossings) (take l.i l.path)
