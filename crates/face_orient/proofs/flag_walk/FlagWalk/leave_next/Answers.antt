use Rattle.std.proofs.Common.{◌≡◌, ◌<◌, ◌∙◌, sym, ap, subst, arith, Some, slice_get, length}
use Rattle.std.proofs.lemmas.Option.{slice_get-get_or}
use Rattle.solid_data.proofs.Members.{has_get}
use Rattle.face_orient.specs.FlagWalk.{IsDone}
use Rattle.face_orient.proofs.FlagWalks.{listed_low, ok_two, place_is}
use Rattle.face_orient.proofs.flag_walk.FlagWalk.leave_next.Goals as goal

pub leave-requires-clause-known : goal.leave-requires-clause-known
leave-requires-clause-known c =
    let low : c.args.q < length c.args.self.now.order.items = omega (arith, c.len.ensures) in
    has_get c.args.self.now.order.items c.args.q c.index-face.result.now
    (slice_get-get_or c.args.self.now.order.items c.args.q c.index-face.result.now low ∙ ap Some (sym c.index-face.ensures))

pub leave-requires-clause-low : goal.leave-requires-clause-low
leave-requires-clause-low c =
    let low : c.args.q < length c.args.self.now.order.items = omega (arith, c.len.ensures) in
    listed_low c.args.faces c.args.crossings.now c.args.first c.args.self.now.places.items c.args.self.now.order.items c.index-face.result.now c.requires.walk
    (has_get c.args.self.now.order.items c.args.q c.index-face.result.now
    (slice_get-get_or c.args.self.now.order.items c.args.q c.index-face.result.now low ∙ ap Some (sym c.index-face.ensures)))

pub returns-clause-done : goal.returns-clause-done
returns-clause-done c =
    let low : c.args.q < length c.args.self.now.order.items = omega (arith, c.len.ensures) in
    let at : slice_get c.args.self.now.order.items c.args.q ≡ Some c.index-face.result.now =
    slice_get-get_or c.args.self.now.order.items c.args.q c.index-face.result.now low ∙ ap Some (sym c.index-face.ensures) in
    ok_two c.leave.result _ _ _
    (λ x g h f there. subst (λ y. IsDone c.args.crossings.now c.leave.new.self.order.items y)
    (place_is c.args.self.now.order.items c.leave.new.self.order.items c.args.q c.index-face.result.now f g low at there) h)
    c.leave.ensures.grows c.leave.ensures.done
