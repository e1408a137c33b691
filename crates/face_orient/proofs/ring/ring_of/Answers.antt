use Rattle.std.proofs.Common.{◌≡◌, ◌<◌, ◌∙◌, ◌++◌, ◌∷◌, sym, ap, subst, Some, slice_get, get_or, length, map}
use Rattle.std.specs.Prelude.{reverse}
use Rattle.std.specs.List.{AllByRecursion}
use Rattle.std.proofs.lemmas.Option.{slice_get-get_or}
use Rattle.edge_uses.proofs.Steps.{ok_weaker}
use Rattle.orient_certificate.specs.declared.crossing.Crossing.{Crossing}
use Rattle.orient_certificate.specs.OddRing.{row_numbers}
use Rattle.orient_certificate.specs.Crossings.{no_step, partner_of}
use Rattle.face_orient.specs.FlagWalk.{walked_of}
use Rattle.face_orient.specs.Paths.{LeadUpTo}
use Rattle.face_orient.proofs.Climbs.{climb_low, ring_made}
use Rattle.face_orient.proofs.ring.ring_of.Goals as goal

pub joined-requires : goal.joined-requires
joined-requires c =
    let st : Crossing = get_or c.args.crossings.now c.args.r no_step in
    let whole : LeadUpTo c.args.crossings.now st.from (walked_of c.args.walk.now.places.items st.from).flag c.in_ok-down.down.items st.to
    (walked_of c.args.walk.now.places.items st.to).flag c.in_ok-up.up.items =
    record { face = 0; flag = c.args.first; from_a = c.in_ok-down.ensures; from_b = c.in_ok-up.ensures } in
    let left : LeadUpTo c.args.crossings.now st.from (walked_of c.args.walk.now.places.items st.from).flag c.drop_common.new.down.items st.to
    (walked_of c.args.walk.now.places.items st.to).flag c.drop_common.new.up.items =
    c.drop_common.ensures c.args.crossings.now st.from st.to (walked_of c.args.walk.now.places.items st.from).flag
    (walked_of c.args.walk.now.places.items st.to).flag whole in
    let low : AllByRecursion (λ x. x < length c.args.crossings.now) c.drop_common.new.up.items =
    climb_low c.args.crossings.now c.drop_common.new.up.items st.to (walked_of c.args.walk.now.places.items st.to).flag left.face left.flag left.from_b in
    subst (AllByRecursion (λ x. x < length c.args.crossings.now)) (sym c.as_slice-2.ensures.value) low

pub returns : goal.returns
returns c =
    let st : Crossing = get_or c.args.crossings.now c.args.r no_step in
    let at : slice_get c.args.crossings.now c.args.r ≡ Some st = slice_get-get_or c.args.crossings.now c.args.r no_step c.requires.row in
    let whole : LeadUpTo c.args.crossings.now st.from (walked_of c.args.walk.now.places.items st.from).flag c.in_ok-down.down.items st.to
    (walked_of c.args.walk.now.places.items st.to).flag c.in_ok-up.up.items =
    record { face = 0; flag = c.args.first; from_a = c.in_ok-down.ensures; from_b = c.in_ok-up.ensures } in
    let left : LeadUpTo c.args.crossings.now st.from (walked_of c.args.walk.now.places.items st.from).flag c.drop_common.new.down.items st.to
    (walked_of c.args.walk.now.places.items st.to).flag c.drop_common.new.up.items =
    c.drop_common.ensures c.args.crossings.now st.from st.to (walked_of c.args.walk.now.places.items st.from).flag
    (walked_of c.args.walk.now.places.items st.to).flag whole in
    let down : c.as_slice.result.now ≡ c.drop_common.new.down.items = c.as_slice.ensures.value in
    let up : c.as_slice-2.result.now ≡ c.drop_common.new.up.items = c.as_slice-2.ensures.value in
    let same : reverse c.as_slice.result.now ++ c.args.r ∷ map (partner_of c.args.crossings.now) c.as_slice-2.result.now ≡ reverse c.drop_common.new.down.items
    ++ c.args.r ∷ map (partner_of c.args.crossings.now) c.drop_common.new.up.items =
    ap (λ xs. reverse xs ++ c.args.r ∷ map (partner_of c.args.crossings.now) c.as_slice-2.result.now) down
    ∙ ap (λ ys. reverse c.drop_common.new.down.items ++ c.args.r ∷ map (partner_of c.args.crossings.now) ys) up in
    ok_weaker c.joined.result _ _
    (λ rows e. ring_made c.args.faces c.args.crossings.now c.requires.graph c.args.r st (walked_of c.args.walk.now.places.items st.from).flag
    (walked_of c.args.walk.now.places.items st.to).flag c.drop_common.new.down.items c.drop_common.new.up.items at left (c.requires.odd st at)
    (row_numbers rows) (e ∙ same))
    c.joined.ensures
