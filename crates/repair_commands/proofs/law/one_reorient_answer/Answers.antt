use Rattle.repair_commands.proofs.FlagsDecided.{reorient_one, some_reorient}
use Rattle.repair_commands.proofs.law.one_reorient_answer.Goals as goal

pub returns-clause-one : goal.returns-clause-one
returns-clause-one c = reorient_one

pub returns-clause-some : goal.returns-clause-some
returns-clause-some c = some_reorient
