use Rattle.std.proofs.Common.{◌≡◌, ◌<◌, ◌+◌, length, subst, arith}
use Rattle.solid_data.proofs.Members.{Has}
use Rattle.face_orient.specs.Heads.{IsHead}
use Rattle.face_orient.proofs.HeadLists.{one_face}
use Rattle.std.proofs.Common.{refl}
use Rattle.face_orient.proofs.FlagWalks.{left_none, left_more, left_all, first_head, next_head, grows_none, grows_more, still_has}
use Rattle.face_orient.proofs.flag_walk.FlagWalk.leave.Goals as goal

pub steps-init : goal.steps-init
steps-init c = record {
  walk = c.requires.walk;
  grows = grows_none c.args.self.now.order.items;
  left = left_none c.args.crossings.now c.args.face c.index-r.result.now c.args.self.now.order.items
      (first_head c.args.faces c.args.crossings.now c.args.face c.index-r.result.now c.args.heads.now.first.items c.args.heads.now.next.items c.requires.table
      c.requires.low c.index-r.ensures);
}

pub cross-requires-clause-known : goal.cross-requires-clause-known
cross-requires-clause-known c = λ k at.
    let low : c.steps.r < length c.args.crossings.now = omega (arith, c.steps-test.true, c.requires.table.steps) in
    let same : c.args.face ≡ k.from = one_face c.args.crossings.now c.args.face k.from c.steps.r (c.steps.invariant.left.here low) (k, at, refl) in
    subst (Has c.steps.self.order.items) same
    (still_has c.args.self.now.order.items c.steps.self.order.items c.args.face c.steps.invariant.grows c.requires.known)

pub steps-smaller : goal.steps-smaller
steps-smaller c =
    let low : c.steps.r < length c.args.crossings.now = omega (arith, c.steps-test.true, c.requires.table.steps) in
    let head : IsHead c.args.crossings.now c.args.face (c.steps.r + 1) c.index-r-in-steps.result.now =
    next_head c.args.faces c.args.crossings.now c.args.face c.steps.r c.index-r-in-steps.result.now c.args.heads.now.first.items
    c.args.heads.now.next.items c.requires.table (c.steps.invariant.left.here low) c.index-r-in-steps.ensures in
    omega (arith, head.low, low)

pub steps-preserved : goal.steps-preserved
steps-preserved c =
    let low : c.steps.r < length c.args.crossings.now = omega (arith, c.steps-test.true, c.requires.table.steps) in
    let head : IsHead c.args.crossings.now c.args.face (c.steps.r + 1) c.index-r-in-steps.result.now =
    next_head c.args.faces c.args.crossings.now c.args.face c.steps.r c.index-r-in-steps.result.now c.args.heads.now.first.items
    c.args.heads.now.next.items c.requires.table (c.steps.invariant.left.here low) c.index-r-in-steps.ensures in
    record {
      walk = c.in_ok-cross.ensures.walk;
      grows = grows_more c.args.self.now.order.items c.steps.self.order.items c.cross.new.self.order.items c.steps.invariant.grows c.in_ok-cross.ensures.grows;
      left = left_more c.args.crossings.now c.args.face c.steps.r c.index-r-in-steps.result.now c.steps.self.order.items c.cross.new.self.order.items
          c.steps.invariant.left head c.in_ok-cross.ensures.grows c.in_ok-cross.ensures.there;
    }

pub returns-clause-done : goal.returns-clause-done
returns-clause-done c = left_all c.args.crossings.now c.args.face c.steps.r c.steps.self.order.items
    (omega (arith, c.steps-test.false, c.requires.table.steps)) c.steps.invariant.left
