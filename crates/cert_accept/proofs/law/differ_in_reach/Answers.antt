use Rattle.cert_accept.proofs.Differ as differ
use Rattle.cert_accept.proofs.law.differ_in_reach.Goals as goal

pub returns : goal.returns
returns c = differ.differ_in_reach
