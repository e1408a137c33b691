use Rattle.open_certificate.proofs.Sound.{accepted_is_sound}
use Rattle.open_certificate.proofs.law.soundness.Goals as goal

pub returns : goal.returns
returns c = accepted_is_sound
