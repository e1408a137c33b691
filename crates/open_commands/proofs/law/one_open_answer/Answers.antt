use Rattle.open_commands.proofs.One.{one_open, one_verify}
use Rattle.open_commands.proofs.law.one_open_answer.Goals as goal

pub returns-clause-certify : goal.returns-clause-certify
returns-clause-certify c = one_open

pub returns-clause-verify : goal.returns-clause-verify
returns-clause-verify c = one_verify
