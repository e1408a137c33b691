use Rattle.std.specs.Prelude.{◌-◌, length}
use Rattle.face_orient.specs.FlagWalk.{IsFlagWalk, Grows}
use Rattle.face_orient.proofs.FlagWalks.{LeftTo}
use Rattle.face_orient.proofs.flag_walk.FlagWalk.leave.Given as goal

abbrev pub invariant-steps : goal.invariant-steps
invariant-steps l = record {
  walk : IsFlagWalk l.faces l.crossings l.first l.self.places.items l.self.order.items;
  grows : Grows l.fn.self.order.items l.self.order.items;
  left : LeftTo l.crossings l.face l.r l.self.order.items;
}

abbrev pub decreases-steps : goal.decreases-steps
decreases-steps l = length l.crossings - l.r
