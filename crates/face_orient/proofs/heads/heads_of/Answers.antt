use Rattle.std.proofs.Common.{◌≡◌, ◌+◌, ◌-◌, ◌<◌, ℕ, get_or, length, slice_set, refl, subst, arith}
use Rattle.std.proofs.lemmas.Option.{slice_get-get_or}
use Rattle.orient_certificate.specs.declared.crossing.Crossing.{Crossing}
use Rattle.orient_certificate.specs.Crossings.{no_step}
use Rattle.face_orient.proofs.HeadLists.{HeadsFrom, heads_step, heads_done}
use Rattle.face_orient.proofs.heads.heads_of.Goals as goal

pub steps-preserved : goal.steps-preserved
steps-preserved c =
    let i : ℕ = length c.args.crossings.now - 1 - c.steps.k in
    let here : i ≡ length c.args.crossings.now - (c.steps.k + 1) = omega (arith, c.steps-test.true) in
    let low : i < length c.args.crossings.now = omega (arith, c.steps-test.true) in
    let st : Crossing = get_or c.args.crossings.now i no_step in
    subst (λ n. HeadsFrom c.args.faces c.args.crossings.now n (slice_set c.steps.first.items st.from i) (slice_set c.steps.next.items i c.index.result.now))
    here
    (heads_step c.args.faces c.args.crossings.now (length c.args.crossings.now - c.steps.k) i st.from c.index.result.now c.steps.first.items c.steps.next.items
    c.requires.graph (omega (arith, c.steps-test.true))
    (st, slice_get-get_or c.args.crossings.now i no_step low, refl) c.index.ensures c.steps.invariant)

pub returns : goal.returns
returns c = heads_done c.args.faces c.args.crossings.now (length c.args.crossings.now - c.steps.k) c.steps.first.items c.steps.next.items
    (omega (arith, c.steps-test.false)) c.steps.invariant
