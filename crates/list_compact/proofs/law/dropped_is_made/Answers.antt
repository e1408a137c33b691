use Rattle.list_compact.proofs.DroppedMade.{dropped_made}
use Rattle.list_compact.proofs.law.dropped_is_made.Goals as goal

pub returns : goal.returns
returns c = dropped_made
