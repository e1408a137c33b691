use Rattle.orient_certificate.proofs.Lawful.{flags_or}
use Rattle.orient_certificate.proofs.law.flags_or_ring.Goals as goal

pub returns : goal.returns
returns c = flags_or
