use Rattle.std.proofs.Common.{◌≡◌, ◌∙◌, ap, arith, sym, subst, length}
use Rattle.solid_data.proofs.Occurring.{length-numbers}
use Rattle.shell_components.specs.Components.{AreInside, AreLabels}
use Rattle.shell_components.proofs.Joined.{numbers_are_labels, joined_components}
use Rattle.shell_components.proofs.joining.components.Goals as goal

pub join_all-requires-clause-inside : goal.join_all-requires-clause-inside
join_all-requires-clause-inside c = subst (AreInside c.args.pairs.now) (sym (ap length c.in_ok-labels.ensures ∙ length-numbers 0 c.args.count))
    c.requires.inside

pub join_all-requires-clause-labels : goal.join_all-requires-clause-labels
join_all-requires-clause-labels c =
    let long : length c.in_ok-labels.labels.items ≡ c.args.count = ap length c.in_ok-labels.ensures ∙ length-numbers 0 c.args.count in
    subst (λ n. AreLabels c.args.pairs.now n c.in_ok-labels.labels.items) (sym long)
    (subst (AreLabels c.args.pairs.now c.args.count) (sym c.in_ok-labels.ensures) (numbers_are_labels c.args.pairs.now c.args.count))

pub settle-requires-clause-few : goal.settle-requires-clause-few
settle-requires-clause-few c = omega (arith, c.join_all.ensures.kept.each, ap length c.in_ok-labels.ensures, length-numbers 0 c.args.count, c.requires.few)

pub returns : goal.returns
returns c =
    joined_components c.args.pairs.now c.args.count c.in_ok-labels.labels.items c.join_all.new.labels.items c.settle.new.labels.items
    (ap length c.in_ok-labels.ensures ∙ length-numbers 0 c.args.count)
    c.join_all.ensures.kept c.join_all.ensures.one_tree c.settle.ensures.rehung c.settle.ensures.settled
