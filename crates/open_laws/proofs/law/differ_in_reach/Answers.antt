use Rattle.open_laws.proofs.Differ as differ
use Rattle.open_laws.proofs.law.differ_in_reach.Goals as goal

pub returns : goal.returns
returns c = differ.differ_in_reach
