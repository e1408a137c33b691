use Rattle.std.proofs.Common.{◌≡◌, ◌∙◌, ap, arith, slice_get, get_or}
use Rattle.std.proofs.lemmas.Option.{slice_get_within, get_or_from_slice_get}
use Rattle.orient_certificate.specs.declared.crossing.Crossing.{Crossing}
use Rattle.face_orient.specs.declared.flag_walk.WalkedFace.{WalkedFace}
use Rattle.orient_certificate.specs.Crossings.{no_step}
use Rattle.face_orient.specs.FlagWalk.{walked_of}
use Rattle.face_orient.proofs.Climbs.{child_of, climb_up, known_place}
use Rattle.face_orient.proofs.ring.climb.Goals as goal

pub bounds-crossings-up : goal.bounds-crossings-up
bounds-crossings-up c =
    let here = known_place c.args.faces c.args.crossings.now c.args.first c.args.walk.now.places.items c.args.walk.now.order.items c.up.at c.index.result.now
    c.requires.walk c.up.invariant.known c.index.ensures in
    let again = known_place c.args.faces c.args.crossings.now c.args.first c.args.walk.now.places.items c.args.walk.now.order.items c.up.at
    c.index-in-up.result.now c.requires.walk c.up.invariant.known c.index-in-up.ensures in
    let child = child_of c.args.faces c.args.crossings.now c.args.first c.args.walk.now.places.items c.args.walk.now.order.items c.up.at c.requires.walk
    c.up.invariant.known (omega (arith, ap (λ (p : WalkedFace). p.depth) here, c.up-test.true)) in
    slice_get_within c.args.crossings.now c.index-in-up.result.now.up child.step (ap (λ (p : WalkedFace). slice_get c.args.crossings.now p.up) again ∙ child.at)

pub up-smaller : goal.up-smaller
up-smaller c =
    let here = known_place c.args.faces c.args.crossings.now c.args.first c.args.walk.now.places.items c.args.walk.now.order.items c.up.at c.index.result.now
    c.requires.walk c.up.invariant.known c.index.ensures in
    let again = known_place c.args.faces c.args.crossings.now c.args.first c.args.walk.now.places.items c.args.walk.now.order.items c.up.at
    c.index-in-up.result.now c.requires.walk c.up.invariant.known c.index-in-up.ensures in
    let child = child_of c.args.faces c.args.crossings.now c.args.first c.args.walk.now.places.items c.args.walk.now.order.items c.up.at c.requires.walk
    c.up.invariant.known (omega (arith, ap (λ (p : WalkedFace). p.depth) here, c.up-test.true)) in
    let step : get_or c.args.crossings.now c.index-in-up.result.now.up no_step ≡ child.step =
    get_or_from_slice_get c.args.crossings.now c.index-in-up.result.now.up child.step no_step
    (ap (λ (p : WalkedFace). slice_get c.args.crossings.now p.up) again ∙ child.at) in
    omega (arith, ap (λ (x : Crossing). (walked_of c.args.walk.now.places.items x.from).depth) step, child.deeper)

pub up-preserved : goal.up-preserved
up-preserved c =
    let here = known_place c.args.faces c.args.crossings.now c.args.first c.args.walk.now.places.items c.args.walk.now.order.items c.up.at c.index.result.now
    c.requires.walk c.up.invariant.known c.index.ensures in
    let again = known_place c.args.faces c.args.crossings.now c.args.first c.args.walk.now.places.items c.args.walk.now.order.items c.up.at
    c.index-in-up.result.now c.requires.walk c.up.invariant.known c.index-in-up.ensures in
    let child = child_of c.args.faces c.args.crossings.now c.args.first c.args.walk.now.places.items c.args.walk.now.order.items c.up.at c.requires.walk
    c.up.invariant.known (omega (arith, ap (λ (p : WalkedFace). p.depth) here, c.up-test.true)) in
    let on = climb_up c.args.faces c.args.crossings.now c.args.first c.args.walk.now.places.items c.args.walk.now.order.items c.up.at c.args.face
    (walked_of c.args.walk.now.places.items c.args.face).flag c.up.path.items c.push.new.self.items c.index-in-up.result.now c.requires.walk child again
    c.in_ok-push.ensures.items c.up.invariant.climbed in
    record { known = on.0; climbed = on.1 }
