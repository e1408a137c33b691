use Rattle.open_certificate.proofs.ClosedShells as lemmas
use Rattle.open_certificate.proofs.law.closed_is_sound.Goals as goal

pub returns : goal.returns
returns c = lemmas.closed_is_sound
