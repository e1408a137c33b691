use Rattle.iges_fields.proofs.Loop.{value_stays_in_line}
use Rattle.iges_fields.proofs.reading.push_item.Goals as goal

pub push-requires : goal.push-requires
push-requires c = value_stays_in_line _ _ _ _ _ (c.in_ok-value.ensures {u = tt}) c.requires.in_line
