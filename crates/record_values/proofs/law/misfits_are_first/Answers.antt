use Rattle.record_values.proofs.Misfits.{misfits_are_first}
use Rattle.record_values.proofs.law.misfits_are_first.Goals as goal

pub returns : goal.returns
returns c = misfits_are_first
