use Rattle.solid_data.proofs.Members.{Has}
use Rattle.orient_certificate.specs.Crossings.{Climb}
use Rattle.face_orient.specs.FlagWalk.{walked_of}
use Rattle.face_orient.proofs.ring.climb.Given as goal

abbrev pub invariant-up : goal.invariant-up
invariant-up l = record {
  known : Has l.walk.order.items l.at;
  climbed : Climb l.crossings l.face (walked_of l.walk.places.items l.face).flag l.path.items l.at (walked_of l.walk.places.items l.at).flag;
}

abbrev pub decreases-up : goal.decreases-up
decreases-up l = (walked_of l.walk.places.items l.at).depth
