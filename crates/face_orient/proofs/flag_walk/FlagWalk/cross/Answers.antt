use Rattle.std.proofs.Common.{◌≡◌, ◌+◌, ◌<◌, ◌∙◌, refl, sym, ap, arith, length, Some, slice_get, get_or, true}
use Rattle.std.proofs.lemmas.Option.{slice_get-get_or, same_Some}
use Rattle.edge_uses.proofs.Steps.{default_apart, ok_weaker}
use Rattle.orient_certificate.specs.declared.crossing.Crossing.{Crossing}
use Rattle.face_orient.specs.declared.flag_walk.WalkedFace.{WalkedFace}
use Rattle.orient_certificate.specs.Crossings.{no_step, flipped}
use Rattle.face_orient.specs.FlagWalk.{walked_of, unreached}
use Rattle.face_orient.proofs.FlagWalks.{walk_more, walk_as, ok_two, depth_low, crossed_now}
use Rattle.face_orient.proofs.flag_walk.FlagWalk.cross.Goals as goal

pub overflow_add-there : goal.overflow_add-there
overflow_add-there c =
    let st : Crossing = get_or c.args.crossings.now c.args.r no_step in
    let at : slice_get c.args.crossings.now c.args.r ≡ Some st = slice_get-get_or c.args.crossings.now c.args.r no_step c.requires.row in
    let low : st.from < length c.args.self.now.places.items = omega (arith, c.requires.graph.from_low c.args.r st at, c.requires.walk.size) in
    let here : c.index-here.result.now ≡ walked_of c.args.self.now.places.items st.from = c.index-here.ensures ∙ default_apart c.args.self.now.places.items
    st.from c.index-here.result.now unreached low in
    omega (
      arith,
      ap (λ (p : WalkedFace). p.depth) here,
      depth_low c.args.faces c.args.crossings.now c.args.first c.args.self.now.places.items
          c.args.self.now.order.items st.from c.requires.walk (c.requires.known st at),
      c.requires.few,
    )

pub add-requires : goal.add-requires
add-requires c =
    let st : Crossing = get_or c.args.crossings.now c.args.r no_step in
    let at : slice_get c.args.crossings.now c.args.r ≡ Some st = slice_get-get_or c.args.crossings.now c.args.r no_step c.requires.row in
    omega (arith, c.requires.graph.to_low c.args.r st at, c.requires.walk.size)

pub returns-clause-walk : goal.returns-clause-walk
returns-clause-walk c =
    let st : Crossing = get_or c.args.crossings.now c.args.r no_step in
    let at : slice_get c.args.crossings.now c.args.r ≡ Some st = slice_get-get_or c.args.crossings.now c.args.r no_step c.requires.row in
    let low : st.from < length c.args.self.now.places.items = omega (arith, c.requires.graph.from_low c.args.r st at, c.requires.walk.size) in
    let to_low : st.to < length c.args.self.now.places.items = omega (arith, c.requires.graph.to_low c.args.r st at, c.requires.walk.size) in
    let here : c.index-here.result.now ≡ walked_of c.args.self.now.places.items st.from = c.index-here.ensures ∙ default_apart c.args.self.now.places.items
    st.from c.index-here.result.now unreached low in
    let there : c.index.result.now ≡ walked_of c.args.self.now.places.items st.to = c.index.ensures ∙ default_apart c.args.self.now.places.items st.to
    c.index.result.now unreached to_low in
    let p : WalkedFace = record { reached = true; flag = c.flip.result; depth = c.index-here.result.now.depth + 1; up = c.args.r } in
    let more =
    walk_more c.args.faces c.args.crossings.now c.args.first c.args.self.now.places.items c.args.self.now.order.items c.args.r st p c.requires.graph
    c.requires.walk at (c.requires.known st at)
    (ap (λ (x : WalkedFace). x.reached) (sym there) ∙ c.if-index.false) refl (c.flip.ensures ∙ ap (λ (x : WalkedFace). flipped st.flips x.flag) here)
    (ap (λ (x : WalkedFace). x.depth + 1) here) refl in
    ok_two c.add.result _ _ _
    (λ x ps os. walk_as c.args.faces c.args.crossings.now c.args.first _ c.add.new.self.places.items _ c.add.new.self.order.items more ps os)
    c.add.ensures.places c.add.ensures.order

pub returns-clause-there : goal.returns-clause-there
returns-clause-there c =
    let st : Crossing = get_or c.args.crossings.now c.args.r no_step in
    let at : slice_get c.args.crossings.now c.args.r ≡ Some st = slice_get-get_or c.args.crossings.now c.args.r no_step c.requires.row in
    ok_weaker c.add.result _ _ (λ x os k is. crossed_now c.args.self.now.order.items c.add.new.self.order.items st k os (same_Some st k (sym at ∙ is)))
    c.add.ensures.order
