use Rattle.orient_commands.proofs.OneOwed.{orienting_one, verifying_one}
use Rattle.orient_commands.proofs.law.one_orient_answer.Goals as goal

pub returns-clause-orienting : goal.returns-clause-orienting
returns-clause-orienting c = orienting_one

pub returns-clause-verifying : goal.returns-clause-verifying
returns-clause-verifying c = verifying_one
