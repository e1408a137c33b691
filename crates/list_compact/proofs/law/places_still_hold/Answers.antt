use Rattle.list_compact.proofs.StillHold.{still_hold}
use Rattle.list_compact.proofs.law.places_still_hold.Goals as goal

pub returns : goal.returns
returns c = still_hold
