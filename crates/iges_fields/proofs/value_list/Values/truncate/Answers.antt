use Rattle.std.proofs.Common.{ap, ◌∙◌}
use Rattle.std.specs.List.{list_all}
use Rattle.iges_fields.specs.InLine.{is_value}
use Rattle.iges_base.proofs.Lists.{list_all-take}
use Rattle.iges_fields.proofs.value_list.Values.truncate.Goals as goal

pub invariant_of-self : goal.invariant_of-self
invariant_of-self c = ap (list_all is_value) c.truncate.ensures ∙ list_all-take is_value c.args.count c.self.inside.values c.self.invariant
