use Rattle.cert_accept.proofs.Small.{upgraded_is_small}
use Rattle.cert_accept.proofs.law.upgraded_is_small.Goals as goal

pub returns : goal.returns
returns c = upgraded_is_small
