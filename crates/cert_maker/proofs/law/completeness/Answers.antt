use Rattle.cert_maker.proofs.Sound.{closed_exactly}
use Rattle.cert_maker.proofs.law.completeness.Goals as goal

pub returns : goal.returns
returns c = closed_exactly
