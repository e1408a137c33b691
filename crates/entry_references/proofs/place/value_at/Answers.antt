use Rattle.entry_references.proofs.Values.{got_some, got_none}
use Rattle.entry_references.proofs.place.value_at.Goals as goal

pub returns-clause-some : goal.returns-clause-some
returns-clause-some c = got_some c.args.values.now c.saturating_sub.result c.args.place c.get.result c.saturating_sub.ensures c.get.ensures.value

pub returns-clause-none : goal.returns-clause-none
returns-clause-none c = got_none c.args.values.now c.saturating_sub.result c.args.place c.get.result c.saturating_sub.ensures c.get.ensures.value
