use Rattle.orient_certificate.proofs.Answered.{count_memory, count_so}
use Rattle.orient_certificate.proofs.checker.OrientChecker.new.Goals as goal

pub returns-clause-only : goal.returns-clause-only
returns-clause-only c = λ two. count_memory c.args.solid.now c.args.shell.0 c.made.result c.made.ensures.fault two

pub returns-clause-only_fault : goal.returns-clause-only_fault
returns-clause-only_fault c = λ x first. count_so c.args.solid.now c.args.shell.0 c.made.result c.made.ensures.fault c.made.ensures.two x first
