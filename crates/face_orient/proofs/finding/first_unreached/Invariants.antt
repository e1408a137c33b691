use Rattle.std.proofs.Common.{drop}
use Rattle.solid_data.specs.Chain.{LeadsTo}
use Rattle.solid_data.specs.Ring.{numbers_from}
use Rattle.edge_uses.proofs.FirstOf.{LeftIn}
use Rattle.orient_certificate.specs.Crossings.{Meets}
use Rattle.face_orient.proofs.finding.first_unreached.Given as goal

abbrev pub invariant-faces : goal.invariant-faces
invariant-faces l = LeftIn (LeadsTo (Meets l.crossings) 0) (drop l.f (numbers_from 0 l.faces)) (numbers_from 0 l.faces)
