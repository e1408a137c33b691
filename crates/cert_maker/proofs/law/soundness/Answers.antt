use Rattle.cert_maker.proofs.Sound.{accepted_is_closed}
use Rattle.cert_maker.proofs.law.soundness.Goals as goal

pub returns : goal.returns
returns c = accepted_is_closed
