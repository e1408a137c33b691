use Rattle.cert_accept.proofs.UpgradedLaw.{upgraded_is_accepted}
use Rattle.cert_accept.proofs.law.upgrading_keeps_acceptance.Goals as goal

pub returns : goal.returns
returns c = upgraded_is_accepted
