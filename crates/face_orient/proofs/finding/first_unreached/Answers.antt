use Rattle.std.proofs.Common.{refl, ◌≡◌, ◌∙◌, sym, ap, arith, length, true, false, ◌<◌}
use Rattle.solid_data.specs.Chain.{LeadsTo}
use Rattle.edge_uses.proofs.Steps.{default_apart}
use Rattle.face_orient.specs.declared.flag_walk.WalkedFace.{WalkedFace}
use Rattle.orient_certificate.specs.Crossings.{Meets}
use Rattle.face_orient.specs.FlagWalk.{walked_of, unreached}
use Rattle.face_orient.proofs.FlagWalks.{face_missed, face_reached, faces_done, unmarked_not, listed_reached}
use Rattle.face_orient.proofs.finding.first_unreached.Goals as goal

pub returns-then-not-index : goal.returns-then-not-index
returns-then-not-index c =
    let low : c.faces.f < length c.args.walk.now.places.items = omega (arith, c.requires.walk.size, c.faces-test.true) in
    let mark : (walked_of c.args.walk.now.places.items c.faces.f).reached ≡ false =
    ap (λ (p : WalkedFace). p.reached) (sym (c.index.ensures ∙ default_apart c.args.walk.now.places.items c.faces.f c.index.result.now unreached low))
    ∙ c.if-not-index.true in
    face_missed (LeadsTo (Meets c.args.crossings.now) 0) c.args.faces c.faces.f (omega (arith, c.faces-test.true)) c.faces.invariant
    (unmarked_not c.args.faces c.args.crossings.now c.args.first c.args.walk.now.places.items c.args.walk.now.order.items c.faces.f c.requires.walk
    c.requires.done mark)

pub faces-preserved : goal.faces-preserved
faces-preserved c =
    let low : c.faces.f < length c.args.walk.now.places.items = omega (arith, c.requires.walk.size, c.faces-test.true) in
    let mark : (walked_of c.args.walk.now.places.items c.faces.f).reached ≡ true =
    ap (λ (p : WalkedFace). p.reached) (sym (c.index.ensures ∙ default_apart c.args.walk.now.places.items c.faces.f c.index.result.now unreached low))
    ∙ c.if-not-index.false in
    face_reached (LeadsTo (Meets c.args.crossings.now) 0) c.args.faces c.faces.f (omega (arith, c.faces-test.true)) c.faces.invariant
    (listed_reached c.args.faces c.args.crossings.now c.args.first c.args.walk.now.places.items c.args.walk.now.order.items c.requires.walk
    (walked_of c.args.walk.now.places.items c.faces.f).depth c.faces.f refl (c.requires.walk.listed c.faces.f mark))

pub returns : goal.returns
returns c = faces_done (LeadsTo (Meets c.args.crossings.now) 0) c.args.faces c.faces.f (omega (arith, c.faces-test.false)) c.faces.invariant
