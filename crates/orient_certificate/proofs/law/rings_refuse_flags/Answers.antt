use Rattle.orient_certificate.proofs.Lawful.{refuses}
use Rattle.orient_certificate.proofs.law.rings_refuse_flags.Goals as goal

pub returns : goal.returns
returns c = refuses
