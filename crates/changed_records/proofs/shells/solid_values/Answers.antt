use Rattle.std.proofs.Common.{◌+◌, ◌∙◌, ap}
use Rattle.changed_records.proofs.SolidSteps.{solid_put}
use Rattle.changed_records.proofs.shells.solid_values.Goals as goal

pub returns : goal.returns
returns c =
    solid_put c.args.values.now c.args.voids.now c.in_ok-count.count c.in_ok-number.number c.len.result c.new-list.result c.push_copies.new.list
    c.push_number.new.list c.push_copies-2.new.list c.push_pairs.new.list c.push_copies-3.new.list c.new-list.ensures c.in_ok-count.ensures.is
    (c.in_ok-number.ensures ∙ ap (λ k. c.in_ok-count.count + k) c.in_ok-added.ensures) c.len.ensures.is c.in_ok-push_copies.ensures
    c.in_ok-push_number.ensures c.in_ok-push_copies-2.ensures c.in_ok-push_pairs.ensures c.in_ok-push_copies-3.ensures
