use Rattle.iges_fields.proofs.InLines.{got_value}
use Rattle.iges_fields.proofs.value_list.Values.get.Goals as goal

pub returns-clause-is_value : goal.returns-clause-is_value
returns-clause-is_value c = got_value c.self.inside.values c.args.i c.get.result c.get.ensures.item c.self.invariant
