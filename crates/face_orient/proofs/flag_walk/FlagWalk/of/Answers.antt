use Rattle.std.proofs.Common.{arith}
use Rattle.face_orient.proofs.FlagWalks.{place_done, each_done}
use Rattle.face_orient.proofs.flag_walk.FlagWalk.of.Goals as goal

pub places-preserved : goal.places-preserved
places-preserved c = record {
  walk = c.in_ok-leave_next.ensures.walk;
  done = place_done c.args.crossings.now c.places.walk.order.items c.leave_next.new.self.order.items c.places.q c.in_ok-leave_next.ensures.grows
      c.in_ok-leave_next.ensures.same c.in_ok-leave_next.ensures.done c.places.invariant.done;
}

pub returns-clause-done : goal.returns-clause-done
returns-clause-done c = each_done c.args.faces c.args.crossings.now c.args.first c.places.walk.places.items c.places.walk.order.items c.places.q
    c.places.invariant.walk (omega (arith, c.places-test.false)) c.places.invariant.done
