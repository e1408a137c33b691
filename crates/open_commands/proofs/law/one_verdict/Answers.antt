use Rattle.open_commands.proofs.One.{verdict_one}
use Rattle.open_commands.proofs.SomeDue.{some_verdict}
use Rattle.open_commands.proofs.law.one_verdict.Goals as goal

pub returns-clause-one : goal.returns-clause-one
returns-clause-one c = verdict_one

pub returns-clause-always : goal.returns-clause-always
returns-clause-always c = some_verdict
