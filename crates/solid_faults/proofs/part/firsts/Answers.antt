use Rattle.std.proofs.Common.{sym, ◌∙◌, subst, ◌≡◌}
use Rattle.std.proofs.lemmas.Result.{IfOk-weaker}
use Rattle.shell_components.specs.Components.{AreInside, AreComponents}
use Rattle.solid_faults.specs.PartPairs.{part_pairs}
use Rattle.solid_faults.specs.Tallied.{AreTallied}
use Rattle.solid_faults.proofs.PartLemmas.{pairs_inside, parts_of_labels}
use Rattle.solid_faults.proofs.part.firsts.Goals as goal

pub components-requires-clause-inside : goal.components-requires-clause-inside
components-requires-clause-inside c =
    let t : AreTallied c.args.rows.now c.in_ok-tally.tally.span c.in_ok-tally.tally.seen =
    record { rows = c.in_ok-tally.ensures.kept; span = c.in_ok-tally.ensures.span; tally = c.in_ok-tally.ensures.tally } in
    let is : c.as_slice.result.now ≡ part_pairs c.args.rows.now c.in_ok-tally.tally.span c.in_ok-tally.tally.seen = c.as_slice.ensures.value
    ∙ c.in_ok-pairs.ensures in
    subst (λ n. AreInside c.as_slice.result.now n) (sym c.face_count.ensures)
    (subst (λ ps. AreInside ps c.args.rows.now.face_count) (sym is) (pairs_inside c.args.rows.now c.in_ok-tally.tally.span c.in_ok-tally.tally.seen t))

pub returns : goal.returns
returns c =
    let t : AreTallied c.args.rows.now c.in_ok-tally.tally.span c.in_ok-tally.tally.seen =
    record { rows = c.in_ok-tally.ensures.kept; span = c.in_ok-tally.ensures.span; tally = c.in_ok-tally.ensures.tally } in
    let is : c.as_slice.result.now ≡ part_pairs c.args.rows.now c.in_ok-tally.tally.span c.in_ok-tally.tally.seen = c.as_slice.ensures.value
    ∙ c.in_ok-pairs.ensures in
    IfOk-weaker c.components.result _ _
    (λ labels are. parts_of_labels c.args.rows.now c.in_ok-tally.tally.span c.in_ok-tally.tally.seen labels.items t
    (subst (λ ps. AreComponents ps c.args.rows.now.face_count labels.items) is
    (subst (λ n. AreComponents c.as_slice.result.now n labels.items) c.face_count.ensures are))) c.components.ensures
