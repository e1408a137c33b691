use Rattle.orient_certificate.proofs.Answered.{only_memory, fails_so, only_these}
use Rattle.face_orient.proofs.orienting.orient.Goals as goal

pub returns-clause-only : goal.returns-clause-only
returns-clause-only c = λ two reached. only_memory c.args.solid.now c.args.shell.0 c.oriented.result c.oriented.ensures.fault two reached

pub returns-clause-only_fault : goal.returns-clause-only_fault
returns-clause-only_fault c = λ x first. fails_so c.args.solid.now c.args.shell.0 c.oriented.result c.oriented.ensures.fault c.oriented.ensures.two
    c.oriented.ensures.reached x first

pub returns-clause-only_flags : goal.returns-clause-only_flags
returns-clause-only_flags c = λ x fit. only_these c.args.solid.now c.args.shell.0 c.oriented.result c.oriented.ensures.found c.oriented.ensures.two
    c.oriented.ensures.reached x fit
