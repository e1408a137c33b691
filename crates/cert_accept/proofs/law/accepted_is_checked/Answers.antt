use Rattle.cert_accept.proofs.CheckedParts as parts
use Rattle.cert_accept.proofs.law.accepted_is_checked.Goals as goal

pub returns : goal.returns
returns c = parts.accepted_is_checked
