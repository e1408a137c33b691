use Rattle.list_compact.proofs.NotRefused.{not_refused}
use Rattle.list_compact.proofs.law.dropped_is_not_refused.Goals as goal

pub returns : goal.returns
returns c = not_refused
