use Rattle.orient_commands.proofs.SomeOwed.{orienting_due, verifying_due}
use Rattle.orient_commands.proofs.law.some_orient_answer.Goals as goal

pub returns-clause-orienting : goal.returns-clause-orienting
returns-clause-orienting c = orienting_due

pub returns-clause-verifying : goal.returns-clause-verifying
returns-clause-verifying c = verifying_due
