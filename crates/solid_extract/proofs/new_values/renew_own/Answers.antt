use Rattle.std.proofs.Common.{◌∙◌, ap, sym, take}
use Rattle.entry_references.specs.Layout.{Own}
use Rattle.solid_extract.proofs.KeptValues.{all_plain}
use Rattle.solid_extract.proofs.new_values.renew_own.Goals as goal

pub returns-then-is_plain : goal.returns-then-is_plain
returns-then-is_plain c =
    let plain = c.is_plain.ensures c.if-is_plain.true in
    c.truncate.ensures
    ∙ (ap (λ (o : Own). take o.count c.args.values.now) c.own.view_is
    ∙ sym (all_plain c.args.renaming.now c.args.own.now 1 (take c.args.own.now.count c.args.values.now) plain.0 plain.1))
