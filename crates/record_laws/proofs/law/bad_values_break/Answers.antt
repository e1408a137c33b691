use Rattle.record_laws.proofs.Earlier.{bad_values_break}
use Rattle.record_laws.proofs.law.bad_values_break.Goals as goal

pub returns : goal.returns
returns c = bad_values_break
