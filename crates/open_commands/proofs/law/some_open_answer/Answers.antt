use Rattle.open_commands.proofs.SomeDue.{some_open, some_verify}
use Rattle.open_commands.proofs.law.some_open_answer.Goals as goal

pub returns-clause-certify : goal.returns-clause-certify
returns-clause-certify c = some_open

pub returns-clause-verify : goal.returns-clause-verify
returns-clause-verify c = some_verify
