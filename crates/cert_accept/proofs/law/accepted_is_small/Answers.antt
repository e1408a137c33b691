use Rattle.cert_accept.proofs.Small.{accepted_is_small}
use Rattle.cert_accept.proofs.law.accepted_is_small.Goals as goal

pub returns : goal.returns
returns c = accepted_is_small
