use Rattle.orient_certificate.proofs.Lines.{only_line}
use Rattle.orient_certificate.proofs.reading.orient_line.Goals as goal

pub returns-clause-only : goal.returns-clause-only
returns-clause-only c = only_line c.args.line.now c.read_line.result c.read_line.ensures.found c.read_line.ensures.fault
