use Rattle.std.proofs.Common.{◌≡◌, true, rules, ap, ◌∙◌}
use Rattle.std.specs.List.{list_all}
use Rattle.iges_fields.specs.InLine.{is_value}
use Rattle.iges_base.proofs.Lists.{list_all-set}
use Rattle.iges_fields.proofs.value_list.Values.replace.Goals as goal

pub invariant_of-self : goal.invariant_of-self
invariant_of-self c =
    let one : is_value c.args.value ≡ true = search rules in
    ap (list_all is_value) c.replace.ensures.list ∙ list_all-set is_value c.self.inside.values c.args.i c.args.value one c.self.invariant
